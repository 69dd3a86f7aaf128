-- `prefix` meets its contract.
use native.Mathlib.Omega.{arith}
use Rattle.console_lines.proofs.TextLaws.{filled-wrote, wrote_as}
use Rattle.console_lines.proofs.FigureLaws.{prefix-filled}
use Rattle.console_lines.proofs.prefix.Goals as goal

pub returns : goal.returns
returns c = record { upper_bound = omega (arith, c.fill.ensures.upper_bound); wrote = wrote_as _ _ _ _ _ _ (prefix-filled c.args.network c.args.len) (filled-wrote _ _ _ _ _ _ (omega arith, (omega arith, (omega arith, (omega arith, (omega arith, tt))))) c.fill.ensures.filled) }
