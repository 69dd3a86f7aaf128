-- `figures_sheet` meets its contract: after i turns the lines of the first i rows are written. The measure is how many rows are left.
use mathlib.Core.Path.{refl, ap}
use native.Mathlib.Omega.{arith}
use Rattle.table.specs.Table.{lease_slots}
use Rattle.console_lines.specs.FigureLines.{row_text}
use Rattle.console_lines.proofs.TextLaws.{then-wrote, wrote_as}
use Rattle.console_lines.proofs.FigureLaws.{rows_none, rows_more, sheet-written}
use Rattle.console_lines.proofs.figures_sheet.Goals as goal

pub loop-i-init : goal.loop-i-init
loop-i-init c = (omega arith, refl, rows_none lease_slots c.args.sheet.now c.args.out.now c.args.at)

pub loop-i-preserved : goal.loop-i-preserved
loop-i-preserved c =
    let inv = c.loop-i.invariant in
    let row = c.row-end in
    (omega (arith, row.ensures.upper_bound), omega (arith, row.auto), rows_more lease_slots c.args.sheet.now c.loop-i.i _ _ _ _ _ _ (omega arith) inv.2 (wrote_as _ _ _ _ _ _ (ap row_text c.row_at.ensures) row.ensures.wrote))

pub returns : goal.returns
returns c = record { upper_bound = omega (arith, c.ok.ensures.place); wrote = wrote_as _ _ _ _ _ _ (sheet-written c.args.sheet.now c.loop-i.i c.requires.0 (omega arith)) (then-wrote _ _ _ _ _ _ _ _ c.loop-i.invariant.2 c.ok.ensures) }
