-- `refusal` meets its contract.
use mathlib.Core.Path.{sym, ◌∙◌}
use native.Mathlib.Omega.{arith}
use Rattle.console_lines.proofs.TextLaws.{filled-wrote, wrote_as}
use Rattle.console_lines.proofs.AnswerLaws.{refused-place, refused-number}
use Rattle.console_lines.proofs.refusal.Goals as goal

pub returns-then-has_place : goal.returns-then-has_place
returns-then-has_place c =
    let a = c.args in
    let placed = sym c.has_place.ensures ∙ c.if-has_place.true in record { upper_bound = omega (arith, c.fill.ensures.upper_bound); wrote = wrote_as _ _ _ _ _ _ (refused-place a.number a.place placed) (filled-wrote _ _ _ _ _ _ (omega arith, (omega arith, tt)) c.fill.ensures.filled) }

pub returns : goal.returns
returns c =
    let a = c.args in
    let placeless = sym c.has_place.ensures ∙ c.if-has_place.false in record { upper_bound = omega (arith, c.fill-2.ensures.upper_bound); wrote = wrote_as _ _ _ _ _ _ (refused-number a.number a.place placeless) (filled-wrote _ _ _ _ _ _ (omega arith, tt) c.fill-2.ensures.filled) }
