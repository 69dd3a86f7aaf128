-- `Cursor::step_into` meets its contract: the end, then a suboption that lies inside, by its body.
use mathlib.Core.Path.{sym, ◌∙◌}
use mathlib.Core.Bool.{and-false}
use borrow.Author.Tests.{le-leb, lt-leb}
use Rattle.option.specs.Reading.{read_suboption, sub_inside?}
use Rattle.option.proofs.SuboptionLaws.{body-ends, body-stops}
use Rattle.option.proofs.StepLaws.{step_end, step-bad, step-good, step-none}
use Rattle.option.proofs.Cursor.step_into.Goals as goal

pub returns-then-s-at : goal.returns-then-s-at
unfolding read_suboption
returns-then-s-at c =
    let all = step_end _ (simp (le-leb _ _ c.if-s-at.true)) in
    record { value = all.0; stores = all.1 }

pub returns-then-s-at-2 : goal.returns-then-s-at-2
unfolding read_suboption sub_inside?
returns-then-s-at-2 c =
    let all = step-bad _ (simp (lt-leb _ _ c.if-s-at.false, lt-leb _ _ c.if-s-at-2.true)) in
    record { value = all.0; stores = all.1 }

pub returns-then-s-end : goal.returns-then-s-end
unfolding read_suboption sub_inside?
returns-then-s-end c =
    let short = simp c.from.ensures at c.if-s-end.true in
    let all = step-bad _ (simp (lt-leb _ _ c.if-s-at.false, lt-leb _ _ short, and-false)) in
    record { value = all.0; stores = all.1 }

pub returns-in-Ok : goal.returns-in-Ok
unfolding read_suboption sub_inside?
returns-in-Ok c =
    let within = simp c.from.ensures at c.if-s-end.false in
    let all = step-good _ _ _ (simp (lt-leb _ _ c.if-s-at.false, le-leb _ _ c.if-s-at-2.false, le-leb _ _ within, c.from.ensures))
    (body-ends _ _ _ _) (sym c.body_at.ensures.value ∙ c.in-Ok.is) c.body_at.ensures.stores in
    record { value = all.0; stores = all.1 }

pub returns-in-Err : goal.returns-in-Err
unfolding read_suboption sub_inside?
returns-in-Err c =
    let within = simp c.from.ensures at c.if-s-end.false in
    let all = step-none c.in-Err.fault _ (simp (lt-leb _ _ c.if-s-at.false, le-leb _ _ c.if-s-at-2.false, le-leb _ _ within, c.from.ensures))
    (body-stops _ _ _ _) (sym c.body_at.ensures.value ∙ c.in-Err.is) c.body_at.ensures.stores in
    record { value = all.0; stores = all.1 }
