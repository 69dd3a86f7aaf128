-- `text::marked` meets its contract: the mark, then the number.
use mathlib.Core.Path.{◌∙◌}
use lib.ListN.{length-set}
use Rattle.text.proofs.TextLaws.{wrote_one, wrote_then}
use Rattle.text.proofs.marked.Goals as goal

pub shape_of-out : goal.shape_of-out
shape_of-out c = c.decimal.auto.out ∙ simp length-set

pub returns : goal.returns
returns c = wrote_then (wrote_one _ _ _) c.decimal.ensures
