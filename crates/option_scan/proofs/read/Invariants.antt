use Prim.Native.Nat.{◌-◌}
use lib.ListN.{length}
use Rattle.option_scan.specs.Scanned.{columns}
use Rattle.option_scan.proofs.SuboptionWalk.{Reading}
use Rattle.option_scan.proofs.read.Given as goal

abbrev pub invariant-loop-x : goal.invariant-loop-x
invariant-loop-x l = Reading l.option l.cursor.at l.contents (columns l.initial.asks l.initial.h l.initial.networks l.initial.lengths) (columns l.asks l.h l.networks l.lengths)

abbrev pub decreases-loop-x : goal.decreases-loop-x
decreases-loop-x l = length l.option - l.cursor.at
