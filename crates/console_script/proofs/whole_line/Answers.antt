-- `whole_line` meets its contract.
use Rattle.console_script.proofs.LineLaws.{whole-is}
use Rattle.console_script.proofs.whole_line.Goals as goal

pub returns-in_err-length-clause-result_value : goal.returns-in_err-length-clause-result_value
returns-in_err-length-clause-result_value c = rw c.from_residual.ensures (whole-is _ _ c.in_err-length.ensures)

pub returns-clause-result_value : goal.returns-clause-result_value
returns-clause-result_value c = whole-is _ _ c.in_ok-length.ensures
