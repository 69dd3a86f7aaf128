-- Bounds that the search for a reason keeps, and how long the parts of its text can be.
use Rattle.std.specs.Prelude.{ℕ, ◌+◌, ◌*◌, ◌≤◌, Result, Ok, Err}
use Rattle.console_reason.specs.declared.Fault.{Fault}
use Rattle.console_reason.specs.declared.Fault.TheVariants as fault

-- The places of a fault are within a line of n bytes.
abbrev pub FaultWithin : ℕ → Fault → Type 0
FaultWithin n (fault.Missing kind) = Unit {0}
FaultWithin n (fault.Wrong start end kind) = (start ≤ end) × (end ≤ n)
FaultWithin n (fault.Surplus start end) = (start ≤ end) × (end ≤ n)
FaultWithin n fault.TooMany = Unit {0}

-- So is the place behind words that were looked at from a place on.
abbrev pub Within : ℕ → ℕ → Result ℕ Fault → Type 0
Within from n (Ok next) = (from ≤ next) × (next ≤ n)
Within from n (Err f) = FaultWithin n f

-- 40 bytes of a word are shown, each as four at most, and the mark of a cut.
abbrev pub word_most : ℕ
word_most = 4 * 40 + 2

-- What a word should be; what is wrong; how a command is written; a whole reason.
abbrev pub kind_most : ℕ
kind_most = 80

abbrev pub fault_most : ℕ
fault_most = word_most + kind_most + 20

abbrev pub form_most : ℕ
form_most = 48

abbrev pub reason_most : ℕ
reason_most = 1024
