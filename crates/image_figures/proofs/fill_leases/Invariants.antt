use mathlib.Core.Path.{◌≡◌}
use lib.ListN.{length}
use Rattle.image_figures.proofs.FillLaws.{Filling}
use Rattle.image_figures.proofs.fill_leases.Given as goal

abbrev pub invariant-loop-i : goal.invariant-loop-i
invariant-loop-i l = (length l.sheet ≡ length l.initial.sheet) × Filling l.initial.sheet l.image l.from l.n l.sheet l.i
