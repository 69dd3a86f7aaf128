use Prim.Native.Nat.{◌≤◌}
use mathlib.Core.Path.{◌≡◌}
use lib.ListN.{length}
use Rattle.call_release.proofs.StrikeLaws.{Striking}
use Rattle.call_release.proofs.strike_named.Given as goal

abbrev pub invariant-loop-k : goal.invariant-loop-k
invariant-loop-k l = (l.count ≤ l.k) × (length l.image ≡ length l.initial.image) × (l.last ≤ l.n) × (1 ≤ l.count → l.first ≤ l.last)
    × Striking l.initial.image l.from l.n l.time l.client l.networks l.lengths l.image (record { count = l.count; first = l.first; last = l.last }) l.k
