-- `read_switch` meets its contract: one word after the other.
use mathlib.Core.Path.{sym, ◌∙◌}
use Rattle.console_script.specs.Parsing.{switch_of}
use Rattle.console_script.proofs.read_switch.Goals as goal

pub returns-then-is : goal.returns-then-is
unfolding switch_of
returns-then-is c = simp (sym c.is.ensures ∙ c.if-is.true)

pub returns-then-is-2 : goal.returns-then-is-2
unfolding switch_of
returns-then-is-2 c = simp (sym c.is.ensures ∙ c.if-is.false, sym c.is-2.ensures ∙ c.if-is-2.true)

pub returns : goal.returns
unfolding switch_of
returns c = simp (sym c.is.ensures ∙ c.if-is.false, sym c.is-2.ensures ∙ c.if-is-2.false)
