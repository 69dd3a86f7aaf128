-- `figure` meets its contract.
use mathlib.Core.Path.{ap, ◌∙◌}
use native.Mathlib.Omega.{arith}
use Rattle.console_lines.specs.FigureLines.{figure_text}
use Rattle.console_lines.proofs.TextLaws.{text-wrote, filled-wrote, then-wrote, wrote_as}
use Rattle.console_lines.proofs.FigureLaws.{figure-untold, figure-told}
use Rattle.console_lines.proofs.figure.Goals as goal

pub returns-then-n : goal.returns-then-n
returns-then-n g c =
    let name = c.text-a.ensures in
    let dash = c.text.ensures in record { upper_bound = omega (arith, name.value, dash.value); wrote = then-wrote _ _ _ _ _ _ _ _ (text-wrote _ _ _ _ _ name.value name.out_after) (wrote_as _ _ _ _ _ _ (figure-untold c.number-n.result c.if-n.true ∙ ap figure_text c.number-n.ensures) (text-wrote _ _ _ _ _ dash.value dash.out_after)) }

pub returns : goal.returns
returns g c =
    let name = c.text-a.ensures in
    let told = c.fill.ensures in record { upper_bound = omega (arith, name.value, told.upper_bound); wrote = then-wrote _ _ _ _ _ _ _ _ (text-wrote _ _ _ _ _ name.value name.out_after) (wrote_as _ _ _ _ _ _ (figure-told c.number-n.result c.if-n.false ∙ ap figure_text c.number-n.ensures) (filled-wrote _ _ _ _ _ _ (omega arith, tt) told.filled)) }
