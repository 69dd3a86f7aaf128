-- `image::name_at` meets its contract.
use mathlib.Core.Path.{sym, ap, ◌∙◌}
use lib.Seq.{drop-drop}
use Rattle.names.specs.Names.{name_in}
use Rattle.image.specs.Reading.{name_at}
use Rattle.image.proofs.name_at.Goals as goal

pub returns : goal.returns
returns c = let a = c.args in c.name_at.ensures ∙ ap name_in (sym (drop-drop name_at a.at a.image.now))
