use Prim.Native.Nat.{◌+◌, ◌≤◌}
use mathlib.Core.Path.{◌≡◌}
use lib.ListN.{length}
use Rattle.ask_gaps.proofs.PassLaws.{Walked}
use Rattle.ask_gaps.proofs.in_pool.Given as goal

abbrev pub invariant-loop-i : goal.invariant-loop-i
invariant-loop-i l =
    (l.n + l.fn.at.leases ≤ l.fn.at.gaps + l.i) × (length l.gaps ≡ length l.initial.gaps)
    × Walked l.image l.span.from l.span.leases l.time l.fn.pool.network l.stop l.fn.at l.initial.gaps l.cursor l.n l.i l.gaps
