use Prim.Native.Nat.{◌+◌, ◌-◌, ◌*◌, ◌≤◌, ◌<◌}
use mathlib.Core.Path.{◌≡◌}
use mathlib.Core.List.{◌++◌}
use lib.ListN.{length, take}
use Rattle.table.specs.Table.{lease_slots}
use Rattle.counts.specs.Counts.{counted_lengths}
use Rattle.image_counts.specs.InnerTally.{both_of, total, frees_on}
use Rattle.image_counts.proofs.fill.Given as goal

abbrev pub invariant-loop-j : goal.invariant-loop-j
invariant-loop-j l = (l.j ≤ counted_lengths) × (l.up ≡ total (l.j + 7) l.opened) × (l.down ≡ total (l.j + 7) (both_of l.sides)) × (l.up ≤ lease_slots * l.j) × (l.down ≤ lease_slots * l.j)
    × (take l.j l.row ++ frees_on l.pool l.opened (both_of l.sides) (l.j + 7) (counted_lengths - l.j) ≡ frees_on l.pool l.opened (both_of l.sides) 7 counted_lengths) × (length l.row ≡ counted_lengths)
    × (l.pool < l.j + 8)
