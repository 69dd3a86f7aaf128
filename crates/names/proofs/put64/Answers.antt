-- `names::put64` meets its contract.
use mathlib.Core.Path.{◌∙◌, ap}
use Rattle.lists.specs.Put.{put}
use Rattle.names.proofs.WordLaws.{le-octets}
use Rattle.names.proofs.put64.Goals as goal

pub returns : goal.returns
returns c = c.put_chunk.ensures ∙ ap (put c.args.out.now c.args.at) (c.to_le_bytes.ensures ∙ le-octets c.args.n c.ranges.n.fits)
