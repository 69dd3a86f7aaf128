use mathlib.Core.Path.{◌≡◌}
use lib.ListN.{drop}
use Rattle.counts.specs.Counts.{same_counts?}
use Rattle.counts.proofs.same.Given as goal

abbrev pub invariant-loop-k : goal.invariant-loop-k
invariant-loop-k l = same_counts? (drop l.k l.a) (drop l.k l.b) ≡ same_counts? l.a l.b
