-- OPTIONS, read, written and checked with no table: option 118 both ways, and whether bytes are an option 220. Each is what crate `option` says, as an answer
-- in numbers.
use Rattle.std.specs.Prelude.{ℕ, List, ◌++◌, length, drop}
use Rattle.option.specs.Values.{Outcome, refused, accepted}
use Rattle.option.specs.Reading.{read_option}
use Rattle.option.specs.Writing.{Writing, refused_with, written}
use Rattle.option.specs.Selection.{Selected, address, read_selection, write_selection, refused as refused_selection}
use Rattle.ledger.specs.declared.Answer.{Answer}
use Rattle.ledger.specs.Ledger.{refusal, acceptance}
use Rattle.call_option.specs.declared.SelectionAnswer.{SelectionAnswer}

-- OPTION 118 READ: row 6, or its address.
abbrev pub selection_answer : Selected → SelectionAnswer
selection_answer (refused_selection number) = record { number = number; address = 0 }
selection_answer (address a) = record { number = 0; address = a }

unfoldable pub selection_in : List ℕ → SelectionAnswer
selection_in option = selection_answer (read_selection option)

-- OPTION 118 WRITTEN to the start of a buffer: row 14, or its bytes; and the buffer after it. What is not written keeps its content.
abbrev pub writing_answer : Writing → List ℕ → Answer × List ℕ
writing_answer (refused_with number) buffer = (refusal number 0, buffer)
writing_answer (written bytes) buffer = (acceptance (length bytes) 0, bytes ++ drop (length bytes) buffer)

unfoldable pub selection_into : ℕ → List ℕ → Answer × List ℕ
selection_into a buffer = writing_answer (write_selection (length buffer) a) buffer

-- OPTION 220 CHECKED: row 6, or row 7 or 16 with its place.
abbrev pub reading_answer : Outcome → Answer
reading_answer (refused number place) = refusal number place
reading_answer (accepted subs) = acceptance 0 0

unfoldable pub option_check : List ℕ → Answer
option_check option = reading_answer (read_option option)
