-- `names::octets` meets its contract.
use mathlib.Core.Path.{◌∙◌}
use lib.ListN.{replicate}
use Rattle.names.specs.Names.{name_octets}
use Rattle.names.proofs.NameLaws.{length-name}
use Rattle.names.proofs.WordLaws.{put_all}
use Rattle.names.proofs.octets.Goals as goal

pub returns : goal.returns
returns c =
    let n = c.args.n in
    c.put_name.ensures ∙ put_all (name_octets n) (replicate 24 0) (length-name n)
