-- `row_head` meets its contract.
use native.Mathlib.Omega.{arith}
use Rattle.console_lines.proofs.TextLaws.{text-wrote, then-wrote}
use Rattle.console_lines.proofs.row_head.Goals as goal

pub returns : goal.returns
returns c = let word = c.text-a.ensures in let p = c.prefix.ensures in record { upper_bound = omega (arith, word.value, p.upper_bound); wrote = then-wrote _ _ _ _ _ _ _ _ (text-wrote _ _ _ _ _ word.value word.out_after) p.wrote }
