-- `image::network_at` meets its contract.
use mathlib.Core.Path.{◌∙◌}
use Rattle.image.proofs.FieldLaws.{number-from}
use Rattle.image.proofs.network_at.Goals as goal

pub returns : goal.returns
returns c = let a = c.args in c.read32.ensures ∙ number-from a.image.now a.at 4
