-- `done` meets its contract.
use native.Mathlib.Omega.{arith}
use Rattle.console_lines.proofs.TextLaws.{wrote_as}
use Rattle.console_lines.proofs.AnswerLaws.{answer-refused, answer-accepted}
use Rattle.console_lines.specs.Lines.{ok_line}
use Rattle.console_lines.proofs.done.Goals as goal

pub returns-then-a-ne0 : goal.returns-then-a-ne0
returns-then-a-ne0 c = record { upper_bound = c.refusal.ensures.upper_bound; wrote = wrote_as _ _ _ _ _ _ (answer-refused c.args.a ok_line c.if-a-ne0.true) c.refusal.ensures.wrote }

pub returns : goal.returns
returns c = record { upper_bound = omega (arith, c.ok.ensures.place); wrote = wrote_as _ _ _ _ _ _ (answer-accepted c.args.a ok_line c.if-a-ne0.false) c.ok.ensures }
