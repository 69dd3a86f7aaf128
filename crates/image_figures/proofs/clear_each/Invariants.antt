use Prim.Native.Nat.{◌-◌, ◌*◌}
use mathlib.Core.Path.{◌≡◌}
use lib.ListN.{length}
use Rattle.lists.specs.Put.{put}
use Rattle.image_figures.specs.Sheets.{row_size}
use Rattle.image_figures.proofs.EmptyBytes.{empty_bytes}
use Rattle.image_figures.proofs.clear_each.Given as goal

abbrev pub invariant-loop-i : goal.invariant-loop-i
invariant-loop-i l = (length l.sheet ≡ length l.initial.sheet) × (l.sheet ≡ put l.initial.sheet (row_size * l.first) (empty_bytes (l.i - l.first)))
