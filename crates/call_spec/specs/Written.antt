-- The answer of one option's writing, from what the writer says: the bytes of an accepted one, or row 13 or 14.
use Rattle.std.specs.Prelude.{ℕ, Result, Ok, Err}
use Rattle.option_reply.specs.declared.WriteFault.{WriteFault}
use Rattle.ledger.specs.declared.{Accepted.Accepted, Refusal.Refusal}
use Rattle.ledger.specs.Answers.{unwritten}

abbrev pub as_answer : Result ℕ WriteFault → Result Accepted Refusal
as_answer (Ok n) = Ok (record { bytes = n; count = 0 })
as_answer (Err fault) = Err (unwritten fault)
