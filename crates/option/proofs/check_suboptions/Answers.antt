-- `check_suboptions` meets its contract. The loop's invariant: how the reading from place 3 ends is how it ends from the cursor on.
use Prim.Native.Nat.{ℕ, ◌≤◌}
use native.Mathlib.Omega.{arith}
use mathlib.Core.Path.{◌≡◌, sym, ap, ◌∙◌}
use mathlib.Core.List.{List}
use lib.ListN.{length}
use Rattle.std.proofs.lemmas.Result.{err_from_is_err_and}
use Rattle.std.specs.declared.result.Result.TheVariants.{Ok, Err}
use Rattle.lists.specs.Walk.{more, stop}
use Rattle.option.specs.Values.{SuboptionValue}
use Rattle.option.specs.Reading.{End, whole, bad_at, read_suboption, read_suboptions}
use Rattle.option.specs.Answers.{checked_end}
use Rattle.option.proofs.SuboptionLaws.{suboption-moves, suboptions-more, suboptions-stop, told-piece, told-bad, told-end}
use Rattle.option.proofs.check_suboptions.Goals as goal

-- What the turn's answer tells: the suboption, and the position after it.
read : (c : goal.In-Some) → (x : SuboptionValue) × (read_suboption c.args.s.now c.loop-next.cursor.at ≡ more x c.in-Some.next.at)
read c = let t = told-piece _ _ c.in-Some.field-0-0 c.in-Some.next (sym c.step.ensures ∙ c.in_ok-next.was ∙ ap Ok c.in-Some.is) in (t.0, t.1)

-- The answer, from how the reading ends.
answer : (s : List ℕ) (at : ℕ) (e : End) → at ≤ length s → (read_suboptions s 3).1 ≡ (read_suboptions s at).1 → read_suboption s at ≡ stop e
    → checked_end e ≡ checked_end (read_suboptions s 3).1
answer s at e le same h = sym (ap checked_end (same ∙ ap (λ (r : List SuboptionValue × End). r.1) (suboptions-stop s at le e h)))

pub loop-next-smaller : goal.loop-next-smaller
loop-next-smaller c =
    let t = read c in
    omega (arith, suboption-moves _ _ t.0 _ t.1)

pub loop-next-preserved : goal.loop-next-preserved
loop-next-preserved c =
    let t = read c in
    let l = c.loop-next.invariant in
    ((suboption-moves _ _ t.0 _ t.1).1, l.1 ∙ ap (λ (r : List SuboptionValue × End). r.1) (suboptions-more _ _ l.0 t.0 _ t.1))

pub returns-in_err-next : goal.returns-in_err-next
returns-in_err-next c =
    let l = c.loop-next.invariant in
    let e = err_from_is_err_and c.from_residual.result c.from_residual.ensures.1 in
    e.1 ∙ ap Err e.2 ∙ answer _ _ (bad_at _ _) l.0 l.1 (told-bad _ _ _ (sym c.step.ensures ∙ c.in_err-next.was))

pub returns : goal.returns
returns c =
    let l = c.loop-next.invariant in
    answer _ _ whole l.0 l.1 (told-end _ _ (sym c.step.ensures ∙ c.in_ok-next.was ∙ ap Ok c.in_default.is))
