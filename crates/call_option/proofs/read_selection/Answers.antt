-- `read_selection` meets its contract, answer by answer.
use mathlib.Core.Path.{refl}
use Rattle.call_option.proofs.OptionLaws.{selected}
use Rattle.call_option.proofs.read_selection.Goals as goal

pub returns-in-Some : goal.returns-in-Some
returns-in-Some c = selected _ _ _ _ c.read_selection.ensures c.in-Some.is refl

pub returns-in-None : goal.returns-in-None
returns-in-None c = selected _ _ _ _ c.read_selection.ensures c.in-None.is refl
