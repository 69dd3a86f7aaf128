-- `figures::empty_row` meets its contract.
use mathlib.Core.Path.{refl}
use Rattle.table.specs.Table.{no_lease}
use Rattle.figures.proofs.empty_row.Goals as goal

pub returns : goal.returns
returns c = c.untold_row.ensures no_lease refl refl
