-- `image_figures::matches` meets its contract.
use mathlib.Core.Path.{sym, ◌∙◌}
use native.Mathlib.Omega.{arith}
use Rattle.image_figures.proofs.MatchLaws.{other-size, other-lease, by-the-rest}
use Rattle.image_figures.proofs.matches.Goals as goal

pub returns-then-sheet-ne-FIGURES : goal.returns-then-sheet-ne-FIGURES
returns-then-sheet-ne-FIGURES c xs r e used = other-size c.args.sheet.now xs c.if-sheet-ne-FIGURES.true

pub returns-then-not-leases_match : goal.returns-then-not-leases_match
returns-then-not-leases_match c xs r e used =
    let a = c.args in
    let lines = c.leases_match in
    other-lease a.sheet.now a.n xs (omega arith) c.requires.0 e used (sym c.if-not-leases_match.true ∙ lines.ensures xs r e)

pub returns : goal.returns
returns c xs r e used =
    let a = c.args in
    let lines = c.leases_match in
    by-the-rest a.sheet.now a.n xs (omega arith) c.requires.0 e used c.rest_empty.result (sym c.if-not-leases_match.false ∙ lines.ensures xs r e) c.rest_empty.ensures
