use Prim.Native.Nat.{◌-◌, ◌*◌, min}
use mathlib.Core.Path.{◌≡◌}
use lib.ListN.{length}
use Rattle.lists.specs.Put.{put}
use Rattle.table.specs.Table.{lease_slots}
use Rattle.image_figures.specs.Sheets.{row_size}
use Rattle.image_figures.proofs.EmptyBytes.{empty_bytes}
use Rattle.image_figures.proofs.clear_rows.Given as goal

abbrev pub invariant-loop-k : goal.invariant-loop-k
invariant-loop-k l = (l.sheet ≡ put l.initial.sheet (row_size * l.first) (empty_bytes (min (lease_slots * l.k) (l.last - l.first)))) × (length l.sheet ≡ length l.initial.sheet)
