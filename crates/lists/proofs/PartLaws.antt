-- Laws of lists of options, and of tests that part a list.
-- Assumes nothing.
use Prim.Native.Nat.{◌+◌, ◌≤◌}
use mathlib.Core.Path.{◌≡◌, refl, sym, ap, ap₂}
use mathlib.Core.Logic.{◌⊎◌, inl, inr, ⊎_elim}
use mathlib.Core.Bool.{Bool, true, false, not}
use mathlib.Core.List.{List, [], ◌∷◌, ◌++◌, map, nil≢cons, head-eq_of_cons-eq, tail-eq_of_cons-eq}
use mathlib.Core.Option.{Option, none, some}
use native.Mathlib.Omega.{arith}
use lib.ListN.{length}
use Rattle.lists.specs.Lists.{filter, cat_maybes}
use Rattle.lists.proofs.Tests.{bool_cases, not-to, not-of}
use Rattle.lists.proofs.FilterLaws.{filter-yes, filter-no}

pub cat_maybes-some : {A : Type 0} (ys : List A) → cat_maybes (map some ys) ≡ ys
cat_maybes-some [] = refl
cat_maybes-some (y ∷ ys) = ap (λ (l : List _). y ∷ l) (cat_maybes-some ys)

pub cat_maybes-append : {A : Type 0} (os ps : List (Option A)) → cat_maybes (os ++ ps) ≡ cat_maybes os ++ cat_maybes ps
cat_maybes-append [] ps = refl
cat_maybes-append (none ∷ os) ps = cat_maybes-append os ps
cat_maybes-append (some x ∷ os) ps = ap (λ (l : List _). x ∷ l) (cat_maybes-append os ps)

pub cat_maybes-few : {A : Type 0} (os : List (Option A)) → length (cat_maybes os) ≤ length os
cat_maybes-few [] = omega arith
cat_maybes-few (none ∷ os) = omega (arith, cat_maybes-few os)
cat_maybes-few (some x ∷ os) = omega (arith, cat_maybes-few os)

-- Where two lists together lack nothing, neither does.
pub split-some : {A : Type 0} (ps qs : List (Option A)) (gs : List A) → ps ++ qs ≡ map some gs
    → (x : List A) × (y : List A) × (ps ≡ map some x) × (qs ≡ map some y) × (gs ≡ x ++ y)
split-some [] qs gs e = ([], gs, refl, e, refl)
split-some (p ∷ ps) qs [] e = absurd (nil≢cons (sym e))
split-some (p ∷ ps) qs (g ∷ gs) e =
    let r = split-some ps qs gs (tail-eq_of_cons-eq e) in
    (g ∷ r.0, r.1, ap₂ (λ x y. x ∷ y) (head-eq_of_cons-eq e) r.2, r.3, ap (λ l. g ∷ l) r.4)

-- Two tests of which exactly one holds.
abbrev pub Opposite : {A : Type 0} → (A → Bool) → (A → Bool) → Type 0
Opposite {A} p q = (x : A) → ((p x ≡ true) × (q x ≡ false)) ⊎ ((p x ≡ false) × (q x ≡ true))

pub opposite-not : {A : Type 0} (q : A → Bool) → Opposite (λ x. not (q x)) q
opposite-not q x = ⊎_elim (λ (h : q x ≡ true). inr (not-to (q x) h, h)) (λ (h : q x ≡ false). inl (not-of (q x) h, h)) (bool_cases (q x))

-- They part a list.
pub count-parts : {A : Type 0} (p q : A → Bool) → Opposite p q → (xs : List A) → length (filter p xs) + length (filter q xs) ≡ length xs
count-parts p q o [] = refl
count-parts p q o (x ∷ xs) =
    ⊎_elim
    (λ (h : (p x ≡ true) × (q x ≡ false)). omega (arith, ap length (filter-yes p x xs h.0), ap length (filter-no q x xs h.1), count-parts p q o xs))
    (λ (h : (p x ≡ false) × (q x ≡ true)). omega (arith, ap length (filter-no p x xs h.0), ap length (filter-yes q x xs h.1), count-parts p q o xs))
    (o x)
