-- `sheet_line` meets its contract.
use mathlib.Core.Path.{sym, ◌∙◌}
use Rattle.console_script.proofs.LineLaws.{sheet-more, sheet-of}
use Rattle.console_script.proofs.sheet_line.Goals as goal

pub returns-then-not-ends-clause-result_value : goal.returns-then-not-ends-clause-result_value
returns-then-not-ends-clause-result_value c = sheet-more _ (sym c.ends.ensures ∙ c.if-not-ends.true)

pub returns-clause-result_value : goal.returns-clause-result_value
returns-clause-result_value c = sheet-of _ (sym c.ends.ensures ∙ c.if-not-ends.false)
