-- `count` meets its contract.
use native.Mathlib.Omega.{arith}
use Rattle.console_lines.proofs.TextLaws.{filled-wrote, wrote_as}
use Rattle.console_lines.proofs.CountLaws.{nothing-wrote, count-hidden, count-shown}
use Rattle.console_lines.proofs.count.Goals as goal

pub returns-then-n-eq0 : goal.returns-then-n-eq0
returns-then-n-eq0 c = record { upper_bound = omega arith; wrote = wrote_as _ _ _ _ _ _ (count-hidden c.args.len c.args.n c.if-n-eq0.true) (nothing-wrote _ _) }

pub returns : goal.returns
returns c = record { upper_bound = omega (arith, c.fill.ensures.upper_bound); wrote = wrote_as _ _ _ _ _ _ (count-shown c.args.len c.args.n c.if-n-eq0.false) (filled-wrote _ _ _ _ _ _ (omega arith, (omega arith, tt)) c.fill.ensures.filled) }
