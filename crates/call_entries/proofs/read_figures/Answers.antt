-- `read_figures` meets its contract: one entry is left, so the step tells it.
use mathlib.Core.Path.{sym, ap, ◌∙◌}
use Rattle.std.specs.Prelude.{Ok}
use Rattle.call_entries.proofs.FiguresLaws.{left-told, left-step}
use Rattle.call_entries.proofs.read_figures.Goals as goal

pub returns-in-Ok-Some : goal.returns-in-Ok-Some
returns-in-Ok-Some c e es left =
    let a = c.args in
    let next = c.next_entry-here in
    let here = next.ensures e es left in
    left-told a.s.now next.result e es here.0 here.1 c.in-Ok-Some.e c.in-Ok-Some.next (sym c.step.ensures ∙ c.in-Ok-Some.is ∙ ap Ok c.in-Ok-Some.field-0-is)

-- No other answer is left.
pub returns-in_default : goal.returns-in_default
returns-in_default c e es left =
    let next = c.next_entry-here in
    let here = next.ensures e es left in
    let told = c.step.ensures ∙ left-step c.args.s.now next.result e es here.0 here.1 in
    absurd cc

pub returns-in_default-2 : goal.returns-in_default-2
returns-in_default-2 c e es left =
    let next = c.next_entry-here in
    let here = next.ensures e es left in
    let told = c.step.ensures ∙ left-step c.args.s.now next.result e es here.0 here.1 in
    absurd cc
