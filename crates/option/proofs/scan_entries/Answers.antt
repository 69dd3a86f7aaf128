-- `scan_entries` meets its contract. The loop's invariant: the entries before the cursor are read and stored. The measure is what is left.
use native.Mathlib.Omega.{arith}
use mathlib.Core.Path.{◌≡◌, refl, sym, ap, ◌∙◌}
use mathlib.Core.Bool.{Bool, ◌&&◌}
use borrow.Author.Rules.{rules}
use Rattle.std.proofs.lemmas.Result.{err_from_is_err_and}
use Rattle.lists.specs.Walk.{more}
use Rattle.option.specs.Values.{Entry}
use Rattle.option.specs.Reading.{read_entry}
use Rattle.option.specs.Answers.{fields_of}
use Rattle.option_entry.specs.declared.EntryFields.{EntryFields}
use Rattle.option.proofs.EntryLaws.{entry-moves, told-entry, told-cut, told-entries-end, entry-fields}
use Rattle.option.proofs.EntryScan.{scanning-none, scanning-more, scanning-stop, scanning-stored}
use Rattle.std.specs.declared.result.Result.TheVariants.{Ok, Err}
use Rattle.option.proofs.scan_entries.Goals as goal

pub loop-e-init : goal.loop-e-init
loop-e-init c = scanning-none _ _ _ _ _ _ (search rules)

pub returns-in_err-e : goal.returns-in_err-e
returns-in_err-e c =
    let h = c.loop-e.invariant in
    let t = told-cut _ _ _ (sym c.step.ensures ∙ c.in_err-e.was) in
    let e = err_from_is_err_and c.from_residual.result c.from_residual.ensures.1 in
    record { value = e.1 ∙ ap Err e.2 ∙ scanning-stop _ _ _ _ _ _ h _ t _ refl; in_columns = scanning-stored _ _ _ _ _ _ h _ t }

-- What the turn's answer tells: the entry, its fields, and the cursor after it.
read : (c : goal.After-slice_known-in-Some-2-1) → (e : Entry)
    × (read_entry c.args.s.now c.loop-e.cursor.end c.loop-e.cursor.at ≡ more e c.in-Some.next.at)
    × (c.in-Some.e ≡ fields_of e)
    × (c.in-Some.next.end ≡ c.loop-e.cursor.end)
read c = told-entry _ _ c.in-Some.e c.in-Some.next (sym c.step.ensures ∙ c.in_ok-e.was ∙ ap Ok c.in-Some.is)

pub overflow_add-n : goal.overflow_add-n
overflow_add-n c =
    let t = read c in
    let l = c.loop-e in
    omega (arith, l.invariant.counted, l.invariant.moved, l.invariant.within, l.invariant.same, entry-moves _ _ _ t.0 _ t.1, c.requires.1, c.ranges.end)

pub loop-e-smaller : goal.loop-e-smaller
loop-e-smaller c =
    let t = read c in
    omega (arith, t.3, entry-moves _ _ _ t.0 _ t.1)

pub loop-e-preserved : goal.loop-e-preserved
loop-e-preserved c =
    let t = read c in
    let l = c.loop-e in
    scanning-more _ _ _ _ _ _ l.invariant t.0 _ _ t.1 t.3 _
    (ap (λ (b : Bool). l.good && b) (c.is_block-good.ensures ∙ entry-fields t.0 _ t.2))
    _ _ (ap (λ (f : EntryFields). f.network) t.2) (ap (λ (f : EntryFields). f.length) t.2) _ _ c.store.ensures c.store-in-Some.ensures

pub returns-then-not-good : goal.returns-then-not-good
returns-then-not-good c =
    let h = c.loop-e.invariant in
    let t = told-entries-end _ _ (sym c.step.ensures ∙ c.in_ok-e.was ∙ ap Ok c.in_default.is) in
    record { value = scanning-stop _ _ _ _ _ _ h _ t _ c.if-not-good.true; in_columns = scanning-stored _ _ _ _ _ _ h _ t }

pub returns : goal.returns
returns c =
    let h = c.loop-e.invariant in
    let t = told-entries-end _ _ (sym c.step.ensures ∙ c.in_ok-e.was ∙ ap Ok c.in_default.is) in
    record { value = scanning-stop _ _ _ _ _ _ h _ t _ c.if-not-good.false; in_columns = scanning-stored _ _ _ _ _ _ h _ t }
