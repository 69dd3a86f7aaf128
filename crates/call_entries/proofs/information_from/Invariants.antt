use Prim.Native.Nat.{◌-◌}
use lib.ListN.{length}
use Rattle.call_entries.proofs.FiguresLaws.{Skipping}
use Rattle.call_entries.proofs.information_from.Given as goal

abbrev pub invariant-loop-place : goal.invariant-loop-place
invariant-loop-place l = Skipping l.s l.at l.place

abbrev pub decreases-loop-place : goal.decreases-loop-place
decreases-loop-place l = length l.s - l.place
