use Prim.Native.Nat.{◌<◌, ◌≤◌}
use mathlib.Core.Path.{◌≡◌}
use Rattle.image_counts.proofs.PassLaws.{Passed}
use Rattle.image_counts.proofs.recount.Given as goal

abbrev pub invariant-loop-j : goal.invariant-loop-j
invariant-loop-j l = Passed l.image l.pools l.leases l.j l.next l.counts × (l.bare_from ≡ l.j)

abbrev pub invariant-loop-k : goal.invariant-loop-k
invariant-loop-k l = Passed l.image l.pools l.leases l.k l.next l.counts × (l.bare_from < l.pools → l.leases ≤ l.next)
