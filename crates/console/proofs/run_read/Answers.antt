-- `run_read` does what the line says.
use borrow.Author.Rules.{rules}
use mathlib.Core.Path.{subst}
use lib.ListN.{length}
use Rattle.std.specs.Prelude.{Option, IfSome}
use Rattle.console_script.specs.declared.Command.{Command}
use Rattle.console_script.specs.Commands.{Within}
use Rattle.console.proofs.RunLaws.{said-as, bad-ran}
use Rattle.console.proofs.run_read.Goals as goal

pub run-requires : goal.run-requires
run-requires c = record { answer_fits = (c.requires.answer_fits.0, c.requires.answer_fits.1, subst (λ (k : Option Command). IfSome k (Within (length c.args.line.now))) c.in-Some.is c.requires.answer_fits.2); figures_len = c.requires.figures_len }

pub returns-in-Some : goal.returns-in-Some
returns-in-Some c = record { upper_bound = search rules; ran = said-as _ _ _ c.in-Some.is c.run.ensures.ran }

pub returns-in-None : goal.returns-in-None
returns-in-None c = record { upper_bound = search rules; ran = said-as _ _ _ c.in-None.is (bad-ran _ _ _ _ _ (search rules) c.error.ensures.wrote) }
