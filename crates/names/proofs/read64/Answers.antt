-- `names::read64` meets its contract.
use mathlib.Core.Path.{◌∙◌}
use Rattle.names.proofs.WordLaws.{le-word}
use Rattle.names.proofs.read64.Goals as goal

pub returns : goal.returns
returns c = c.from_le_bytes.ensures ∙ le-word c.chunk_at.result c.args.s.now c.args.at c.requires c.chunk_at.ensures
