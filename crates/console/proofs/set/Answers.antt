-- `set` sets what its command sets, if there is one.
use mathlib.Core.Path.{refl, sym, subst}
use Rattle.std.specs.Prelude.{Option}
use Rattle.console_script.specs.declared.Command.{Command}
use Rattle.console.specs.InnerRuns.{Set}
use Rattle.console.proofs.set.Goals as goal

pub returns-in-Some : goal.returns-in-Some
returns-in-Some c = let w = c.set_by.ensures in (w.0, w.1, w.2, subst (λ (k : Option Command). Set k c.args.s c.set_by.result) (sym c.in-Some.is) w.3)

pub returns-in-None : goal.returns-in-None
returns-in-None c = (refl, refl, refl, subst (λ (k : Option Command). Set k c.args.s c.args.s) (sym c.in-None.is) (λ words. (refl, refl)))
