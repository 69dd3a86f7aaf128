-- What a step answers and leaves of the columns, case by case.
-- Assumes nothing.
use Prim.Native.Nat.{ℕ}
use native.Mathlib.Omega.{arith}
use mathlib.Core.Path.{◌≡◌, refl, sym, ap, ap₂, subst, ◌∙◌}
use mathlib.Core.List.{List, []}
use mathlib.Core.Bool.{Bool}
use Rattle.lists.specs.Walk.{Turn, more, stop}
use Rattle.lists.proofs.PutLaws.{put-nothing}
use Rattle.lists.proofs.WalkLaws.{more-not-stop}
use Rattle.option.specs.Values.{Entry, SuboptionValue}
use Rattle.option.specs.Reading.{End, whole, bad_at, when_good, read_request, read_name}
use Rattle.option.specs.Answers.{suboption_of, cursor_at, step_of, entries_of, InColumns, Stores}
use Rattle.option.specs.Inner.{body_of}
use Rattle.option.specs.declared.Fault.{Fault}
use Rattle.option.specs.declared.Fault.TheVariants.{Framing}
use Rattle.option.specs.declared.Suboption.{Suboption}
use Rattle.std.specs.declared.result.Result.{Result}
use Rattle.std.specs.declared.option.Option.TheVariants.{Some}
use Rattle.std.specs.declared.result.Result.TheVariants.{Ok, Err}
use Rattle.option.proofs.SuboptionLaws.{good-read, good-not-whole, EndsAt, StopsAt}

module _ {t : Turn SuboptionValue End} {from : ℕ} {ns ls ns' ls' : List ℕ} where
  stores-bad : (fault : Fault) (place : ℕ) → t ≡ stop (bad_at fault place) → Stores t from ns ls ns' ls'
  stores-bad fault place h = record {
    stored = λ x next k. absurd (more-not-stop x next (bad_at fault place) (sym k ∙ h));
    kept = λ k. let z : ◌≡◌ {A = ℕ} 0 1 = cc in absurd (omega arith);
  }

  stores_as : {u : Turn SuboptionValue End} → t ≡ u → Stores u from ns ls ns' ls' → Stores t from ns ls ns' ls'
  stores_as e k = subst (λ (t : Turn SuboptionValue End). Stores t from ns ls ns' ls') (sym e) k

  -- A body that is bad, a good one, and one by another name.
  pub body-bad : (fault : Fault) (at : ℕ) → t ≡ stop (bad_at fault at) → (body_of at (stop (bad_at fault at)) ≡ body_of at t) × Stores t from ns ls ns' ls'
  body-bad fault at h = (ap (body_of at) (sym h), stores-bad fault at h)

  pub body-good : (at : ℕ) (r : Result Suboption Fault) (x : SuboptionValue) (next : ℕ) → t ≡ more x next → r ≡ Ok (suboption_of x at next) → InColumns (entries_of x) from ns ls ns' ls'
      → (r ≡ body_of at t) × Stores t from ns ls ns' ls'
  body-good at r x next h e k = (
    e ∙ ap (body_of at) (sym h),
    record {
      stored = λ y last j.
          let both : more x next ≡ more y last = sym h ∙ j in
          let same : x ≡ y = cc in
          subst (λ (z : SuboptionValue). InColumns (entries_of z) from ns ls ns' ls') same k;
      kept = λ j. absurd (more-not-stop x next whole (sym h ∙ j));
    },
  )

  pub body-as : {u : Turn SuboptionValue End} (at : ℕ) (r : Result Suboption Fault) → t ≡ u → r ≡ body_of at u → Stores u from ns ls ns' ls' → (r ≡ body_of at t) × Stores t from ns ls ns' ls'
  body-as at r e h k = (h ∙ ap (body_of at) (sym e), stores_as e k)

  -- A step that finds no whole suboption, and one that goes by the body.
  pub step-bad : (at : ℕ) → t ≡ stop (bad_at Framing at) → (Err (record { fault = Framing; place = at }) ≡ step_of at t) × Stores t from ns ls ns' ls'
  step-bad at h = (ap (step_of at) (sym h), stores-bad Framing at h)

  pub step-good : {u : Turn SuboptionValue End} (at end : ℕ) (f : Suboption) → t ≡ u → EndsAt end u → body_of at u ≡ Ok f → Stores u from ns ls ns' ls'
      → (Ok (Some (f, cursor_at end)) ≡ step_of at t) × Stores t from ns ls ns' ls'
  step-good {u} at end f e ends h k = (go u ends h ∙ ap (step_of at) (sym e), stores_as e k)
    where
      go : (u : Turn SuboptionValue End) → EndsAt end u → body_of at u ≡ Ok f → Ok (Some (f, cursor_at end)) ≡ step_of at u
      go (more x next) ends h =
          let same : end ≡ next = ends x next refl in
          let fields : suboption_of x at next ≡ f = cc in
          ap₂ (λ (f : Suboption) (n : ℕ). Ok (Some (f, cursor_at n))) (sym fields) same
      go (stop whole) ends h = absurd cc
      go (stop (bad_at fault p)) ends h = absurd cc

  pub step-none : {u : Turn SuboptionValue End} (fault : Fault) (at : ℕ) → t ≡ u → StopsAt at u → body_of at u ≡ Err fault → Stores u from ns ls ns' ls'
      → (Err (record { fault = fault; place = at }) ≡ step_of at t) × Stores t from ns ls ns' ls'
  step-none {u} fault at e stops h k = (go u stops h ∙ ap (step_of at) (sym e), stores_as e k)
    where
      go : (u : Turn SuboptionValue End) → StopsAt at u → body_of at u ≡ Err fault → Err (record { fault = fault; place = at }) ≡ step_of at u
      go (more x next) stops h = absurd cc
      go (stop b) stops h =
          let s = stops b refl in
          let same : s.0 ≡ fault = let k = sym (ap (λ (b : End). body_of at (stop b)) s.1) ∙ h in cc in
          ap (λ (f : Fault). Err (record { fault = f; place = at })) (sym same) ∙ ap (λ (b : End). step_of at (stop b)) (sym s.1)

-- The end.
pub step_end : {t : Turn SuboptionValue End} {from : ℕ} {ns ls : List ℕ} (at : ℕ) → t ≡ stop whole → (step_of at (stop whole) ≡ step_of at t) × Stores t from ns ls ns ls
step_end at h = (ap (step_of at) (sym h), record { stored = λ x next k. absurd (more-not-stop x next whole (sym k ∙ h)); kept = λ k. (refl, refl) })

-- A suboption without entries leaves the columns as they are.
module _ (from : ℕ) (ns ls : List ℕ) where
  pub columns-kept : InColumns [] from ns ls ns ls
  columns-kept = (sym (put-nothing ns from), sym (put-nothing ls from))

  kept : (framed : Bool) (x : SuboptionValue) (at end : ℕ) → entries_of x ≡ [] → Stores (when_good framed x at end) from ns ls ns ls
  kept framed x at end e = record {
    stored = λ y next h.
        let none : entries_of y ≡ [] = ap entries_of (sym (good-read framed x at end y next h).2) ∙ e in
        subst (λ (es : List Entry). InColumns es from ns ls ns ls) (sym none) columns-kept;
    kept = λ k. absurd (good-not-whole framed x at end k);
  }

  pub request-kept : (s : List ℕ) (at end : ℕ) → Stores (read_request s at end) from ns ls ns ls
  unfolding read_request
  request-kept s at end = kept _ _ at end refl

  pub name-kept : (s : List ℕ) (at end : ℕ) → Stores (read_name s at end) from ns ls ns ls
  unfolding read_name
  name-kept s at end = kept _ _ at end refl
