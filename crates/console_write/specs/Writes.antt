-- What `write` answers of an option that is to be written, and what it leaves of the buffer.
use Rattle.std.specs.Prelude.{ℕ, ◌≡◌, Option, Some, None, List, Result}
use Rattle.option.specs.Writing.{Writing}
use Rattle.option_reply.specs.Answers.{into}
use Rattle.call_spec.specs.Written.{as_answer}
use Rattle.ledger.specs.declared.{Accepted.Accepted, Answer.Answer, Refusal.Refusal}
use Rattle.ledger.specs.Answers.{answer_of}

abbrev pub written_as : Writing → List ℕ → Answer × List ℕ
written_as w buffer = (answer_of (as_answer (into w buffer).0), (into w buffer).1)

-- A line of words that are not these changes nothing; of any other the answer and the buffer are those of one option's writing.
pub record WroteOne (a : Answer) (old new : List ℕ) : Type 0 where
  pub option : Writing
  pub same : (a, new) ≡ written_as option old

abbrev pub Writes : Option (Result Accepted Refusal) → List ℕ → List ℕ → Type 0
Writes None old new = new ≡ old
Writes (Some r) old new = WroteOne (answer_of r) old new
