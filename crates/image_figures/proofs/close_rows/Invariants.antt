use Prim.Native.Nat.{◌≤◌}
use mathlib.Core.Path.{◌≡◌}
use lib.ListN.{length}
use Rattle.image_figures.specs.Inner.{Closing}
use Rattle.image_figures.proofs.close_rows.Given as goal

abbrev pub invariant-loop-i : goal.invariant-loop-i
invariant-loop-i l = (l.kept ≤ l.i) × (length l.sheet ≡ length l.initial.sheet) × Closing l.initial.sheet l.image l.from l.first l.last l.n l.time l.sheet l.kept l.i
