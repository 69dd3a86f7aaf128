-- `save_line` meets its contract.
use mathlib.Core.Path.{sym, ap, ◌∙◌}
use Rattle.console_words.specs.Words.{last?}
use Rattle.console_script.specs.Parsing.{form_of, older_alone?}
use Rattle.console_script.proofs.LineLaws.{save-alone, save-no-form, save-more, save-of, save-older}
use Rattle.console_script.proofs.save_line.Goals as goal

pub returns-then-ends-clause-result_value : goal.returns-then-ends-clause-result_value
returns-then-ends-clause-result_value c = save-alone _ (sym c.ends.ensures ∙ c.if-ends.true)

pub returns-in_err-form-clause-result_value : goal.returns-in_err-form-clause-result_value
returns-in_err-form-clause-result_value c = let w = c.next_word-w.ensures in rw c.from_residual.ensures (save-no-form _ (sym c.ends.ensures ∙ c.if-ends.false) (ap form_of (sym w.word) ∙ sym c.in_err-form.ensures))

pub returns-then-ends-2-clause-result_value : goal.returns-then-ends-2-clause-result_value
returns-then-ends-2-clause-result_value c = let w = c.next_word-w.ensures in save-of _ (sym c.ends.ensures ∙ c.if-ends.false) _ (ap form_of (sym w.word) ∙ sym c.in_ok-form.ensures) (ap last? (sym w.rest) ∙ sym c.ends-2.ensures ∙ c.if-ends-2.true)

pub returns-then-not-older_alone-clause-result_value : goal.returns-then-not-older_alone-clause-result_value
returns-then-not-older_alone-clause-result_value c =
    let w = c.next_word-w.ensures in save-more _ (sym c.ends.ensures ∙ c.if-ends.false) _
    (ap form_of (sym w.word) ∙ sym c.in_ok-form.ensures)
    (ap last? (sym w.rest) ∙ sym c.ends-2.ensures ∙ c.if-ends-2.false)
    (ap older_alone? (sym w.rest) ∙ sym c.older_alone.ensures ∙ c.if-not-older_alone.true)

pub returns-clause-result_value : goal.returns-clause-result_value
returns-clause-result_value c =
    let w = c.next_word-w.ensures in save-older _ (sym c.ends.ensures ∙ c.if-ends.false) _
    (ap form_of (sym w.word) ∙ sym c.in_ok-form.ensures)
    (ap last? (sym w.rest) ∙ sym c.ends-2.ensures ∙ c.if-ends-2.false)
    (ap older_alone? (sym w.rest) ∙ sym c.older_alone.ensures ∙ c.if-not-older_alone.false)
