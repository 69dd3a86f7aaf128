-- `read_selection` meets its contract: carried, and answer by answer.
use mathlib.Core.Path.{ap, sym, ◌∙◌}
use mathlib.Core.Bool.{Bool}
use Rattle.call_spec.specs.ImageCalls.{carried_if}
use Rattle.call_rows.specs.Admission.{selection_read}
use Rattle.call_rows.proofs.SelectionLaws.{carried-read}
use Rattle.call_rows.proofs.read_selection.Goals as goal

pub returns-in-Some : goal.returns-in-Some
returns-in-Some c =
    carried-read _ _ _ c.read_selection.ensures c.in-Some.is ∙ ap (λ (b : Bool). selection_read (carried_if b c.args.selection.now)) (sym c.if-not-carried.false)

pub returns-in-None : goal.returns-in-None
returns-in-None c =
    carried-read _ _ _ c.read_selection.ensures c.in-None.is ∙ ap (λ (b : Bool). selection_read (carried_if b c.args.selection.now)) (sym c.if-not-carried.false)
