use Prim.Native.Nat.{◌≤◌}
use Rattle.table.specs.Table.{lease_slots}
use Rattle.image_figures.proofs.MatchLaws.{Matching}
use Rattle.image_figures.proofs.leases_match.Given as goal

abbrev pub invariant-loop-i : goal.invariant-loop-i
invariant-loop-i l = (few : l.n ≤ lease_slots) → Matching l.sheet l.image l.from l.n lease_slots few l.i
