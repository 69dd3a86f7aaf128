-- `is_nothing` meets its contract.
use mathlib.Core.Path.{ap}
use Rattle.console_script.specs.declared.Command.{Command}
use Rattle.console_script.specs.Commands.{command_in}
use Rattle.console.specs.Runs.{passed_over?}
use Rattle.console.proofs.LineLaws.{not-passed}
use Rattle.console.proofs.is_nothing.Goals as goal

pub returns-in-Nothing : goal.returns-in-Nothing
returns-in-Nothing c words = ap (λ (k : Command). passed_over? (command_in words k)) c.in-Nothing.is

pub returns : goal.returns
returns c words = not-passed c.args.command words c.in_default.not-Nothing
