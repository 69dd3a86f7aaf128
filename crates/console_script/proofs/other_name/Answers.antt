-- `other_name` meets its contract: one name after the other.
use mathlib.Core.Path.{sym, ◌∙◌}
use Rattle.console_script.specs.Parsing.{other_name}
use Rattle.console_script.proofs.other_name.Goals as goal

pub returns-then-is : goal.returns-then-is
unfolding other_name
returns-then-is c = simp (sym c.is.ensures ∙ c.if-is.true)

pub returns-then-is-2 : goal.returns-then-is-2
unfolding other_name
returns-then-is-2 c = simp (sym c.is.ensures ∙ c.if-is.false, sym c.is-2.ensures ∙ c.if-is-2.true)

pub returns-then-is-3 : goal.returns-then-is-3
unfolding other_name
returns-then-is-3 c = simp (sym c.is.ensures ∙ c.if-is.false, sym c.is-2.ensures ∙ c.if-is-2.false, sym c.is-3.ensures ∙ c.if-is-3.true)

pub returns-then-is-4 : goal.returns-then-is-4
unfolding other_name
returns-then-is-4 c = simp (sym c.is.ensures ∙ c.if-is.false, sym c.is-2.ensures ∙ c.if-is-2.false, sym c.is-3.ensures ∙ c.if-is-3.false, sym c.is-4.ensures ∙ c.if-is-4.true)

pub returns-then-is-5 : goal.returns-then-is-5
unfolding other_name
returns-then-is-5 c = simp (sym c.is.ensures ∙ c.if-is.false, sym c.is-2.ensures ∙ c.if-is-2.false, sym c.is-3.ensures ∙ c.if-is-3.false, sym c.is-4.ensures ∙ c.if-is-4.false, sym c.is-5.ensures ∙ c.if-is-5.true)

pub returns-then-is-6 : goal.returns-then-is-6
unfolding other_name
returns-then-is-6 c = simp (sym c.is.ensures ∙ c.if-is.false, sym c.is-2.ensures ∙ c.if-is-2.false, sym c.is-3.ensures ∙ c.if-is-3.false, sym c.is-4.ensures ∙ c.if-is-4.false, sym c.is-5.ensures ∙ c.if-is-5.false, sym c.is-6.ensures ∙ c.if-is-6.true)

pub returns-then-is-7 : goal.returns-then-is-7
unfolding other_name
returns-then-is-7 c = simp (sym c.is.ensures ∙ c.if-is.false, sym c.is-2.ensures ∙ c.if-is-2.false, sym c.is-3.ensures ∙ c.if-is-3.false, sym c.is-4.ensures ∙ c.if-is-4.false, sym c.is-5.ensures ∙ c.if-is-5.false, sym c.is-6.ensures ∙ c.if-is-6.false, sym c.is-7.ensures ∙ c.if-is-7.true)

pub returns : goal.returns
unfolding other_name
returns c = simp (sym c.is.ensures ∙ c.if-is.false, sym c.is-2.ensures ∙ c.if-is-2.false, sym c.is-3.ensures ∙ c.if-is-3.false, sym c.is-4.ensures ∙ c.if-is-4.false, sym c.is-5.ensures ∙ c.if-is-5.false, sym c.is-6.ensures ∙ c.if-is-6.false, sym c.is-7.ensures ∙ c.if-is-7.false)
