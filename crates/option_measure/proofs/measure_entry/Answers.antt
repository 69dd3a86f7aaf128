-- `measure_entry` meets its contract.
use mathlib.Core.Path.{sym, ◌∙◌}
use Rattle.option_measure.proofs.MeasureLaws.{entry-many, entry-no-block, measured-entry}
use Rattle.option_measure.proofs.measure_entry.Goals as goal

pub returns-then-figures-gt3-clause-value : goal.returns-then-figures-gt3-clause-value
returns-then-figures-gt3-clause-value c = simp (entry-many c.args.e c.if-figures-gt3.true)

pub returns-then-not-is_block-clause-value : goal.returns-then-not-is_block-clause-value
returns-then-not-is_block-clause-value c = simp (entry-no-block c.args.e (sym c.is_block.ensures ∙ c.if-not-is_block.true))

pub returns-clause-value : goal.returns-clause-value
returns-clause-value c = measured-entry c.args.e c.if-figures-gt3.false (sym c.is_block.ensures ∙ c.if-not-is_block.false)
