-- `read` meets its contract: row 6, then the suboptions. The loop's invariant: the suboptions before the cursor are good and taken in. The
-- measure is what is left.
use native.Mathlib.Omega.{arith}
use mathlib.Core.Path.{◌≡◌, refl, sym, ap, subst, ◌∙◌}
use Rattle.std.proofs.lemmas.Result.{err_from_is_err_and}
use Rattle.std.specs.Prelude.{Result, Ok, Err}
use Rattle.lists.specs.Walk.{more}
use Rattle.option.specs.Values.{SuboptionValue}
use Rattle.option.specs.Reading.{read_suboption}
use Rattle.option.specs.Answers.{suboption_of}
use Rattle.option.specs.declared.Cursor.{Cursor}
use Rattle.option.specs.declared.OptionFault.{OptionFault}
use Rattle.option.proofs.SuboptionLaws.{option-long, suboption-moves, told-piece, told-bad, told-end}
use Rattle.option_scan.specs.declared.Contents.{Contents}
use Rattle.option_scan.specs.Scanned.{columns, Reads}
use Rattle.option_scan.proofs.SuboptionWalk.{reading-none, reading_small, reading-more, read-other, reading-bad, reading-all}
use Rattle.option_scan.proofs.read.Goals as goal

pub returns-then-not-is_option : goal.returns-then-not-is_option
returns-then-not-is_option c = read-other _ _ (sym c.is_option.ensures.0 ∙ c.if-not-is_option.true)

pub loop-x-init : goal.loop-x-init
loop-x-init c =
    let long = option-long _ (sym c.is_option.ensures.0 ∙ c.if-not-is_option.false) in
    reading-none _ _ _ _ (omega arith) (ap (λ (k : Cursor). k.at) c.first-cursor.ensures) refl

-- What the step's answer tells: the suboption's value, the place after it, and its fields.
told : (c : goal.After-add-arg-in-Some-1) → (x : SuboptionValue)
    × (read_suboption c.args.option.now c.loop-x.cursor.at ≡ more x c.in-Some.next.at)
    × (c.in-Some.x ≡ suboption_of x c.loop-x.cursor.at c.in-Some.next.at)
told c = told-piece _ _ c.in-Some.x c.in-Some.next (sym c.step_into.ensures.value ∙ c.in_ok-x.was ∙ ap Ok c.in-Some.is)

-- The same after the suboption is taken in.
told-2 : (c : goal.After-slice_known-in-Some-2-1) → (x : SuboptionValue)
    × (read_suboption c.args.option.now c.loop-x.cursor.at ≡ more x c.in-Some.next.at)
    × (c.in-Some.x ≡ suboption_of x c.loop-x.cursor.at c.in-Some.next.at)
told-2 c = told-piece _ _ c.in-Some.x c.in-Some.next (sym c.step_into.ensures.value ∙ c.in_ok-x.was ∙ ap Ok c.in-Some.is)

pub add-contents-requires : goal.add-contents-requires
add-contents-requires c =
    let t = told c in
    reading_small _ _ _ _ _ c.loop-x.invariant t.0 _ t.1 _ t.2 (c.is_option.ensures.1 c.if-not-is_option.false)

pub loop-x-smaller : goal.loop-x-smaller
loop-x-smaller c =
    let t = told-2 c in
    omega (arith, suboption-moves _ _ t.0 _ t.1)

pub loop-x-preserved : goal.loop-x-preserved
loop-x-preserved c =
    let t = told-2 c in
    reading-more _ _ _ _ _ c.loop-x.invariant t.0 _ t.1 _ t.2 _ _ c.add-contents.ensures
    (c.step_into.ensures.stores.stored t.0 _ t.1)

pub returns-in_err-x : goal.returns-in_err-x
returns-in_err-x c =
    let yes = sym c.is_option.ensures.0 ∙ c.if-not-is_option.false in
    let t = told-bad _ _ _ (sym c.step_into.ensures.value ∙ c.in_err-x.was) in
    let e = err_from_is_err_and c.from_residual.result c.from_residual.ensures.1 in
    subst (λ (r : Result Contents OptionFault). Reads c.args.option.now r (columns c.loop-x.asks c.loop-x.h c.step_into.new.networks c.step_into.new.lengths)) (sym (e.1 ∙ ap Err e.2)) (reading-bad _ _ _ _ _ c.loop-x.invariant yes _ t _)

pub returns : goal.returns
returns c =
    let yes = sym c.is_option.ensures.0 ∙ c.if-not-is_option.false in
    let t = told-end _ _ (sym c.step_into.ensures.value ∙ c.in_ok-x.was ∙ ap Ok c.in_default.is) in
    reading-all _ _ _ _ _ c.loop-x.invariant yes (c.is_option.ensures.1 c.if-not-is_option.false) c.requires t _ _ (c.step_into.ensures.stores.kept t)
