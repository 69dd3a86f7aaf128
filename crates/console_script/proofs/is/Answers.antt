-- `is` meets its contract.
use Rattle.console_script.proofs.NameLaws.{same-is}
use Rattle.console_script.proofs.is.Goals as goal

pub returns : goal.returns
returns c = same-is _ _ _ c.same.ensures.0 c.same.ensures.1
