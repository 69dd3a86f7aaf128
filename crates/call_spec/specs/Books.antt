-- THE OPEN BOOK (document 02, M-102): what a server holds from call to call. Beside what is lent for the table it has "a count of whole free blocks for each
-- root and each length 8 to 30, eight rows of twenty-three, in the open book". Each call is the one on what is lent (`ImageCalls`), and counts again.
use Rattle.std.specs.Prelude.{ℕ, Bool, cond, List, [], eqb}
use Rattle.image.specs.declared.Form.{Form}
use Rattle.counts.specs.Counts.{counts_of, same_counts?, sum_at}
use Rattle.ledger.specs.declared.Answer.{Answer}
use Rattle.ledger.specs.Ledger.{State, Call, Result, outcome, first_of, or_else, refusal, acceptance, table_rows, Calls}
use Rattle.call_spec.specs.ImageCalls.{Lent, lent, table_in, state_in, ask_image, take_image, list_image, release_image, mark_image, open_image, load_into, save_from}

pub record Book : Type 0 where
  pub lent : Lent
  pub counts : List (List ℕ)

abbrev pub book_of : List ℕ → ℕ → List ℕ → List (List ℕ) → Book
book_of image bytes figures counts = record { lent = lent image bytes figures; counts = counts }

-- WHAT A CALL IS GIVEN

-- The counts are those of the table, rows of unused pools included.
unfoldable pub counted? : Book → Bool
counted? b = same_counts? b.counts (counts_of (table_in b.lent))

-- "a book whose counts differ is unsound": it is given as one that has no image, which the ledger refuses with 5, in the place that row 5 has.
unfoldable pub lent_in : Book → Lent
lent_in b = cond (counted? b) b.lent (lent b.lent.image 0 b.lent.figures)

abbrev pub state_in_book : Book → State
state_in_book b = state_in (lent_in b)

-- WHAT A CALL LEAVES

-- "equal to what a fresh walk would find"
abbrev pub counted : Lent → Book
counted h = record { lent = h; counts = counts_of (table_in h) }

-- "Every call that changes lines keeps it"; a refusal leaves it.
unfoldable pub kept : Result Lent → Book → Result Book
kept r b = outcome r.answer (cond (eqb r.answer.number 0) (counted r.state) b) r.reply

-- THE CALLS

abbrev pub ask_book : Book → ℕ → Call → Result Book
ask_book b now c = kept (ask_image (lent_in b) now c) b

abbrev pub take_book : Book → ℕ → Call → Result Book
take_book b now c = kept (take_image (lent_in b) now c) b

abbrev pub release_book : Book → ℕ → Call → Result Book
release_book b now c = kept (release_image (lent_in b) now c) b

abbrev pub mark_book : Book → ℕ → ℕ → ℕ → Bool → Result Book
mark_book b now network len d = kept (mark_image (lent_in b) now network len d) b

-- List and save change nothing.
abbrev pub list_book : Book → ℕ → Call → Result Book
list_book b now c = let r = list_image (lent_in b) now c in outcome r.answer b r.reply

abbrev pub save_book : Book → Form → Bool → List ℕ → Result Book
save_book b form older buffer = let r = save_from (lent_in b) form older buffer in outcome r.answer b r.reply

abbrev pub book_calls : Calls Book
book_calls = record { state_of = state_in_book; asks = ask_book; takes = take_book; lists = list_book; releases = release_book; marks = mark_book }

-- Open and load judge no book: they make one. "Load works the counts out."
abbrev pub open_book : Book → List ℕ → List ℕ → ℕ → ℕ → ℕ → Result Book
open_book b networks lengths term default_length start = kept (open_image b.lent networks lengths term default_length start) b

abbrev pub load_book : Book → List ℕ → Result Book
load_book b saved = kept (load_into b.lent saved) b

-- THE QUERY: "A query for a length sums over the roots, strikes nothing, speaks of the book as last written, and answers 0 outside 8 to 30; its only
-- refusal is 5."
unfoldable pub whole_book : Book → ℕ → Answer
whole_book b len = or_else (first_of (table_rows (state_in_book b))) (λ number. refusal number 0) (acceptance 0 (sum_at b.counts len))
