-- `selection_line` meets its contract.
use mathlib.Core.Path.{sym, ap, ◌∙◌}
use Rattle.console_words.specs.Words.{last?}
use Rattle.console_script.specs.Parsing.{switch_of}
use Rattle.console_script.proofs.LineLaws.{selection-no-switch, selection-more, selection-of}
use Rattle.console_script.proofs.selection_line.Goals as goal

pub returns-in_err-on-clause-result_value : goal.returns-in_err-on-clause-result_value
returns-in_err-on-clause-result_value c = let w = c.next_word-w.ensures in rw c.from_residual.ensures (selection-no-switch _ (ap switch_of (sym w.word) ∙ sym c.in_err-on.ensures))

pub returns-then-not-ends-clause-result_value : goal.returns-then-not-ends-clause-result_value
returns-then-not-ends-clause-result_value c = let w = c.next_word-w.ensures in selection-more _ _ (ap switch_of (sym w.word) ∙ sym c.in_ok-on.ensures) (ap last? (sym w.rest) ∙ sym c.ends.ensures ∙ c.if-not-ends.true)

pub returns-clause-result_value : goal.returns-clause-result_value
returns-clause-result_value c = let w = c.next_word-w.ensures in selection-of _ _ (ap switch_of (sym w.word) ∙ sym c.in_ok-on.ensures) (ap last? (sym w.rest) ∙ sym c.ends.ensures ∙ c.if-not-ends.false)
