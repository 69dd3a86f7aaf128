-- What the private functions of the reader promise each other. Nothing here stands in the promise of a public one.
use Rattle.std.specs.Prelude.{Bool, cond, List, length, ℕ, Result, Ok, Err}
use Rattle.lists.specs.Lists.{all?}
use Rattle.lists.specs.Walk.{Turn, more, stop}
use Rattle.option.specs.Values.{Entry, SuboptionValue}
use Rattle.option.specs.Rules.{entry_fields?}
use Rattle.option.specs.Reading.{End, whole, bad_at}
use Rattle.option.specs.Answers.{last_of, suboption_of}
use Rattle.option.specs.declared.{Entries.Entries, Fault.Fault, Suboption.Suboption}
use Rattle.option.specs.declared.Fault.TheVariants.{Framing, Field}

-- What one pass over the entries of an information finds: how many there are and the network of the last one, if all are framed and
-- the fields of all keep the rules. Framing comes first.
abbrev pub scan_of : List Entry × Bool → Result Entries Fault
scan_of r = cond r.1 (cond (all? entry_fields? r.0) (Ok (record { count = length r.0; last = last_of r.0 })) (Err Field)) (Err Framing)

-- The body of a suboption whose number byte is at `at`. (No body reads as the end of the option.)
abbrev pub body_of : ℕ → Turn SuboptionValue End → Result Suboption Fault
body_of at (more x next) = Ok (suboption_of x at next)
body_of at (stop whole) = Err Framing
body_of at (stop (bad_at fault place)) = Err fault
