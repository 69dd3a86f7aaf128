use Prim.Native.Nat.{◌-◌}
use Rattle.option.proofs.EntryScan.{Scanning}
use Rattle.option.proofs.scan_entries.Given as goal

abbrev pub invariant-loop-e : goal.invariant-loop-e
invariant-loop-e l = Scanning l.s l.at l.end l.from l.initial.networks l.initial.lengths l.cursor.at l.cursor.end l.n l.good l.last l.networks l.lengths

abbrev pub decreases-loop-e : goal.decreases-loop-e
decreases-loop-e l = l.cursor.end - l.cursor.at
