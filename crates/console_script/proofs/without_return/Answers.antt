-- `without_return` meets its contract.
use native.Mathlib.Omega.{arith}
use Rattle.console_script.proofs.LineLaws.{returned, not-returned, no_line}
use Rattle.console_script.proofs.without_return.Goals as goal

pub returns-then-line-n-eq13 : goal.returns-then-line-n-eq13
returns-then-line-n-eq13 c = (returned c.args.line.now (omega arith) c.if-line-n-eq13.true, omega arith)

pub returns-else-line-n-eq13 : goal.returns-else-line-n-eq13
returns-else-line-n-eq13 c = (not-returned c.args.line.now c.if-line-n-eq13.false, omega arith)

pub returns-else-n-gt0 : goal.returns-else-n-gt0
returns-else-n-gt0 c = (no_line c.args.line.now (omega arith), omega arith)
