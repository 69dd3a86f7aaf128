use Prim.Native.Nat.{◌≤◌}
use mathlib.Core.Path.{◌≡◌}
use lib.ListN.{length}
use Rattle.image_figures.proofs.SpreadLaws.{Spreading}
use Rattle.image_figures.proofs.spread.Given as goal

abbrev pub invariant-loop-left : goal.invariant-loop-left
invariant-loop-left l = (l.left ≤ l.k) × (l.k ≤ l.leases) × (length l.sheet ≡ length l.initial.sheet) × Spreading l.initial.sheet l.n l.image l.from l.leases l.sheet l.left l.k

abbrev pub decreases-loop-left : goal.decreases-loop-left
decreases-loop-left l = l.k
