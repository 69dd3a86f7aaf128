use Prim.Native.Nat.{◌-◌}
use lib.ListN.{length}
use Rattle.gap_list.proofs.SearchLaws.{Searching}
use Rattle.gap_list.proofs.fit.Given as goal

abbrev pub invariant-loop-index : goal.invariant-loop-index
invariant-loop-index l = Searching l.gaps l.length l.best l.most l.from

abbrev pub decreases-loop-index : goal.decreases-loop-index
decreases-loop-index l = length l.gaps - l.from
