-- `echo` writes the line of a command, where that is asked for.
use mathlib.Core.Path.{refl, ◌∙◌}
use native.Mathlib.Omega.{arith}
use Rattle.console_lines.proofs.TextLaws.{text-wrote, then-wrote}
use Rattle.console.proofs.LineLaws.{not-asked, passed_over, echoed, wrote-to}
use Rattle.console.proofs.echo.Goals as goal

pub returns-then-not-s : goal.returns-then-not-s
returns-then-not-s c = let a = c.args in record { answer_fits = (omega (arith, c.requires), (refl, refl, refl, refl)); echoed = not-asked a.s.echo a.command a.line.now a.out.now a.s.at c.if-not-s.true }

pub returns-then-is_passed_over : goal.returns-then-is_passed_over
returns-then-is_passed_over c = let a = c.args in record { answer_fits = (omega (arith, c.requires), (refl, refl, refl, refl)); echoed = passed_over a.s.echo a.command a.line.now a.out.now a.s.at (λ words. c.is_passed_over.ensures words ∙ c.if-is_passed_over.true) }

pub returns : goal.returns
returns c =
    let a = c.args in
    let first = c.text-a.ensures in
    let second = c.text-b.ensures in
    let third = c.text-c.ensures in
    let w = then-wrote _ _ _ _ _ _ _ _ (text-wrote _ _ _ _ _ first.value first.out_after) (then-wrote _ _ _ _ _ _ _ _ (text-wrote _ _ _ _ _ second.value second.out_after) (text-wrote _ _ _ _ _ third.value third.out_after)) in
    let next = c.with_output.ensures in record { answer_fits = (omega (arith, first.value, second.value, third.value, next.0, c.requires), (next.1.0, next.1.1, next.1.2, next.1.3)); echoed = echoed a.s.echo a.command a.line.now a.out.now a.s.at _ _ c.if-not-s.false (λ words. c.is_passed_over.ensures words ∙ c.if-is_passed_over.false) (wrote-to _ _ _ _ _ _ next.0 w) }
