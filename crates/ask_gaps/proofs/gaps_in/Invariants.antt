use Prim.Native.Nat.{◌+◌, ◌≤◌}
use mathlib.Core.Path.{◌≡◌}
use lib.ListN.{length}
use Rattle.ask_gaps.proofs.PassLaws.{Passed}
use Rattle.ask_gaps.proofs.gaps_in.Given as goal

abbrev pub invariant-loop-k : goal.invariant-loop-k
invariant-loop-k l = (l.at.leases ≤ l.span.leases) × (l.at.gaps ≤ l.k + l.at.leases) × (length l.gaps ≡ length l.initial.gaps)
    × Passed l.image l.span.pool l.span.pools l.span.from l.span.leases l.time l.k l.at l.gaps
