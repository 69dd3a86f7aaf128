-- `row_counts` meets its contract: after j turns the first j counts are written. The measure is how many are left.
use mathlib.Core.Path.{refl, ap}
use native.Mathlib.Omega.{arith}
use lib.Seq.{take_all}
use Rattle.table.specs.Table.{shortest_pool}
use Rattle.console_lines.specs.CountLines.{row_counts}
use Rattle.console_lines.proofs.TextLaws.{wrote_as}
use Rattle.console_lines.proofs.CountLaws.{row-none, row_wrote}
use Rattle.console_lines.proofs.row_counts.Goals as goal

pub loop-j-init : goal.loop-j-init
loop-j-init c = (omega arith, refl, row-none shortest_pool c.args.row c.args.out.now c.args.at)

pub loop-j-preserved : goal.loop-j-preserved
loop-j-preserved c = (omega (arith, c.count-end.ensures.upper_bound), omega (arith, c.count-end.auto), row_wrote shortest_pool c.args.row c.loop-j.j _ _ _ _ _ _ (omega arith) c.loop-j.invariant.2 c.count-end.ensures.wrote)

pub returns : goal.returns
returns c = record { upper_bound = omega arith; wrote = wrote_as _ _ _ _ _ _ (ap (row_counts shortest_pool) (take_all c.loop-j.j c.args.row (omega arith))) c.loop-j.invariant.2 }
