-- `image_figures::empty_rows` meets its contract.
use mathlib.Core.Path.{ap, ◌∙◌}
use Rattle.std.specs.List.{flat_map}
use Rattle.std.proofs.lemmas.List.{take-replicate}
use Rattle.table.specs.Table.{lease_slots}
use Rattle.image_figures.proofs.EmptyBytes.{empty-flat}
use Rattle.image_figures.proofs.empty_rows.Goals as goal

pub returns : goal.returns
returns c = let n = c.args.n in c.as_flattened.ensures.value ∙ ap (flat_map (λ l. l)) (take-replicate n lease_slots _ c.requires) ∙ empty-flat n
