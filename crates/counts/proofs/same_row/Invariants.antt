use mathlib.Core.Path.{◌≡◌}
use lib.ListN.{drop}
use Rattle.counts.specs.Counts.{same_row?}
use Rattle.counts.proofs.same_row.Given as goal

abbrev pub invariant-loop-j : goal.invariant-loop-j
invariant-loop-j l = same_row? (drop l.j l.a) (drop l.j l.b) ≡ same_row? l.a l.b
