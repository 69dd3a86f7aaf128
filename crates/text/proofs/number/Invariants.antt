use Prim.Native.Nat.{◌+◌, ◌-◌, ◌*◌, ◌≤◌}
use mathlib.Core.Path.{◌≡◌}
use lib.ListN.{length}
use Rattle.lists.specs.Put.{put}
use Rattle.text.specs.Wrote.{lowest_digits}
use Rattle.text.proofs.number.Given as goal

abbrev pub invariant-loop-k : goal.invariant-loop-k
invariant-loop-k l = (l.at + l.size ≤ length l.initial.out) × (put l.out l.at (lowest_digits (l.size - 2 * l.k) l.left) ≡ put l.initial.out l.at (lowest_digits l.size l.n)) × (length l.out ≡ length l.initial.out)
