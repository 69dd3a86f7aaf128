-- `is_passed_over` meets its contract.
use mathlib.Core.Path.{ap, ◌∙◌}
use Rattle.std.specs.Prelude.{Option}
use Rattle.console_script.specs.declared.Command.{Command}
use Rattle.console_script.specs.Commands.{value_in}
use Rattle.console.specs.Runs.{passed_over?}
use Rattle.console.proofs.is_passed_over.Goals as goal

pub returns-in-Some : goal.returns-in-Some
returns-in-Some c words = ap (λ (k : Option Command). passed_over? (value_in words k)) c.in-Some.is ∙ c.is_nothing.ensures words

pub returns-in-None : goal.returns-in-None
returns-in-None c words = ap (λ (k : Option Command). passed_over? (value_in words k)) c.in-None.is
