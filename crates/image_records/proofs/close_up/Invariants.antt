use Rattle.image.specs.Image.{lease_size}
use Prim.Native.Nat.{◌+◌, ◌*◌, ◌≤◌}
use mathlib.Core.Path.{◌≡◌}
use lib.ListN.{length, drop}
use Rattle.image_records.specs.Inner.{Closed}
use Rattle.image_records.proofs.close_up.Given as goal

abbrev pub invariant-loop-i : goal.invariant-loop-i
invariant-loop-i l = (l.kept ≤ l.i) × (l.i ≤ l.last) × (length l.image ≡ length l.initial.image) × (drop (l.from + lease_size * l.i) l.image ≡ drop (l.from + lease_size * l.i) l.initial.image) × Closed l.initial.image l.from l.first l.time l.image l.kept l.i
