-- `strike_expired` meets its contract.
use native.Mathlib.Omega.{arith}
use mathlib.Core.Path.{ap, ◌∙◌}
use Rattle.image_figures.specs.Sheets.{sheet_of}
use Rattle.call_rows.proofs.StruckLaws.{struck-in, struck-none, struck-some}
use Rattle.call_rows.proofs.strike_expired.Goals as goal

pub returns-then-expired-eq0 : goal.returns-then-expired-eq0
returns-then-expired-eq0 c rows xs e r counted = let a = c.args in e ∙ ap sheet_of (struck-none a.expired a.time xs rows c.if-expired-eq0.true)

pub returns : goal.returns
returns c rows xs e r counted =
    let a = c.args in
    struck-in a.n c.strike.result a.time xs rows _ counted (c.strike.ensures.value rows xs e r counted (λ k h gone. (omega arith, omega (arith, counted))))
    ∙ ap sheet_of (struck-some a.expired a.time xs rows c.if-expired-eq0.false)
