-- `counted` meets its contract.
use native.Mathlib.Omega.{arith}
use Rattle.console_lines.proofs.TextLaws.{wrote_as, filled-wrote}
use Rattle.console_lines.proofs.AnswerLaws.{answer-refused, answer-accepted}
use Rattle.console_lines.specs.Lines.{count_line}
use Rattle.console_lines.proofs.counted.Goals as goal

pub returns-then-a-ne0 : goal.returns-then-a-ne0
returns-then-a-ne0 c = record { upper_bound = c.refusal.ensures.upper_bound; wrote = wrote_as _ _ _ _ _ _ (answer-refused c.args.a (count_line c.args.a.count) c.if-a-ne0.true) c.refusal.ensures.wrote }

pub returns : goal.returns
returns c = record { upper_bound = omega (arith, c.fill.ensures.upper_bound); wrote = wrote_as _ _ _ _ _ _ (answer-accepted c.args.a (count_line c.args.a.count) c.if-a-ne0.false) (filled-wrote _ _ _ _ _ _ (omega arith, tt) c.fill.ensures.filled) }
