-- `image_check::pool` meets its contract.
use mathlib.Core.Path.{ap, ◌∙◌}
use Rattle.table.specs.Table.{pool_prefix}
use Rattle.image_check.proofs.pool.Goals as goal

pub returns : goal.returns
returns c = c.from.ensures ∙ ap pool_prefix c.pool_at.ensures
