-- `read_form` meets its contract: one word after the other.
use mathlib.Core.Path.{sym, ◌∙◌}
use Rattle.console_script.specs.Parsing.{form_of}
use Rattle.console_script.proofs.read_form.Goals as goal

pub returns-then-is : goal.returns-then-is
unfolding form_of
returns-then-is c = simp (sym c.is.ensures ∙ c.if-is.true)

pub returns-then-is-2 : goal.returns-then-is-2
unfolding form_of
returns-then-is-2 c = simp (sym c.is.ensures ∙ c.if-is.false, sym c.is-2.ensures ∙ c.if-is-2.true)

pub returns : goal.returns
unfolding form_of
returns c = simp (sym c.is.ensures ∙ c.if-is.false, sym c.is-2.ensures ∙ c.if-is-2.false)
