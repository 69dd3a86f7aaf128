-- `image::read32` meets its contract.
use mathlib.Core.Path.{◌∙◌}
use Rattle.image.proofs.FieldLaws.{le-number32}
use Rattle.image.proofs.read32.Goals as goal

pub returns : goal.returns
returns c = c.from_le_bytes.ensures ∙ le-number32 c.chunk_at.result c.args.s.now c.args.at c.chunk_at.ensures
