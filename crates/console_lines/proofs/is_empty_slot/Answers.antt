-- `is_empty_slot` meets its contract.
use mathlib.Core.Path.{sym}
use Rattle.table.specs.Table.{no_lease}
use Rattle.figures.proofs.FoundLaws.{lease-other}
use Rattle.console_lines.proofs.FigureLaws.{empty-slot}
use Rattle.console_lines.proofs.is_empty_slot.Goals as goal

pub returns-then-r-ne0 : goal.returns-then-r-ne0
returns-then-r-ne0 c = sym (lease-other no_lease c.args.r c.if-r-ne0.true)

pub returns : goal.returns
returns c = empty-slot c.args.r c.if-r-ne0.false
