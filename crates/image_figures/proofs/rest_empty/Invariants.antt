use Prim.Native.Nat.{◌+◌, ◌*◌}
use mathlib.Core.Path.{◌≡◌}
use lib.ListN.{drop}
use Rattle.lists.specs.Lists.{all?}
use Rattle.table.specs.Table.{lease_slots}
use Rattle.figures.specs.Inner.{empty_row?}
use Rattle.image_figures.specs.Sheets.{rows_in}
use Rattle.image_figures.proofs.rest_empty.Given as goal

abbrev pub invariant-loop-k : goal.invariant-loop-k
invariant-loop-k l = all? empty_row? (drop l.n (rows_in lease_slots l.sheet)) ≡ all? empty_row? (drop (l.n + 32 * l.k) (rows_in lease_slots l.sheet))
