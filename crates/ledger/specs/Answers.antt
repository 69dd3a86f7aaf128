-- How the code's answers read as the ledger's.
use Rattle.std.specs.Prelude.{ℕ, List, Result, Ok, Err}
use Rattle.std.proofs.Math.Option.{Option}
use Rattle.option.specs.Reading.{fault_number}
use Rattle.option.specs.declared.OptionFault.{OptionFault}
use Rattle.option.specs.declared.OptionFault.TheVariants.{NotTheOption as NoOption, BadSuboption}
use Rattle.option_reply.specs.declared.WriteFault.{WriteFault}
use Rattle.option_reply.specs.declared.WriteFault.TheVariants as write
use Rattle.ledger.specs.declared.{Accepted.Accepted, Answer.Answer, Refusal.Refusal}
use Rattle.ledger.specs.declared.Refusal.TheVariants.{ReplyTooShort, NoClient, TimeBeforeLast, TimeTooLate, NotSound, NotTheOption, BadFraming, WrongSuboptions, TableFull, NoFreePrefix, NothingFound, BadTerms, OutsideRules, BufferTooShort, SheetDiffers, BadField, NameTooLong, NamesLost, NoSuchPool, TooManyLeases}
use Rattle.ledger.specs.Ledger.{refusal, acceptance, or_else, refusal_place}

-- Document 01's number and values for each of the reader's answers; 0 is no refusal.
abbrev pub checked_answer : Result (Unit {0}) OptionFault → Answer
checked_answer (Ok good) = acceptance 0 0
checked_answer (Err NoOption) = refusal 6 0
checked_answer (Err (BadSuboption bad)) = refusal (fault_number bad.fault) bad.place

-- The refusal of the row that applies, or an accepted answer with no counts.
abbrev pub answered : Option ℕ → List ℕ → Answer
answered row option = or_else row (λ number. refusal number (refusal_place option number)) (acceptance 0 0)

-- The number of each refusal: documents 01 and 02.
abbrev pub refusal_number : Refusal → ℕ
refusal_number ReplyTooShort = 1
refusal_number NoClient = 2
refusal_number TimeBeforeLast = 3
refusal_number TimeTooLate = 4
refusal_number NotSound = 5
refusal_number NotTheOption = 6
refusal_number (BadFraming place) = 7
refusal_number WrongSuboptions = 8
refusal_number TableFull = 9
refusal_number NoFreePrefix = 10
refusal_number NothingFound = 11
refusal_number BadTerms = 12
refusal_number OutsideRules = 13
refusal_number BufferTooShort = 14
refusal_number SheetDiffers = 15
refusal_number (BadField place) = 16
refusal_number NameTooLong = 17
refusal_number NamesLost = 18
refusal_number NoSuchPool = 19
refusal_number TooManyLeases = 20

-- "7 also its place", and 16 "with the same place"; of every other refusal 0.
abbrev pub bad_place : Refusal → ℕ
bad_place (BadFraming place) = place
bad_place (BadField place) = place
bad_place _ = 0

-- Why an option is not written: rows 13 and 14.
abbrev pub unwritten : WriteFault → Refusal
unwritten write.OutsideRules = OutsideRules
unwritten write.TooLong = BufferTooShort

-- What a call gives, as the ledger's answer.
abbrev pub answer_of : Result Accepted Refusal → Answer
answer_of (Ok a) = acceptance a.bytes a.count
answer_of (Err e) = refusal (refusal_number e) (bad_place e)
