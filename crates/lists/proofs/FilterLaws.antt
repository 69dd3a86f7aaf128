-- Laws of `filter`: the elements that pass a test.
-- Assumes nothing.
use Prim.Native.Nat.{ℕ, zero, suc, ◌≤◌, ◌+◌}
use mathlib.Core.Path.{◌≡◌, refl, sym, ap, ap₂, subst, ◌∙◌}
use mathlib.Core.Logic.{⊎_elim}
use mathlib.Core.Bool.{Bool, true, false, cond}
use mathlib.Core.List.{List, [], ◌∷◌, ◌++◌}
use native.Mathlib.Omega.{arith}
use lib.ListN.{length, replicate}
use Rattle.lists.specs.Lists.{All, filter}
use Rattle.lists.proofs.ListLaws.{all-every}
use Rattle.lists.proofs.Tests.{bool_cases, cond-true, cond-false}

module _ {A : Type 0} (f : A → Bool) where
  pub filter-yes : (x : A) (xs : List A) → f x ≡ true → filter f (x ∷ xs) ≡ x ∷ filter f xs
  filter-yes x xs e = cond-true (f x) (x ∷ filter f xs) (filter f xs) e

  pub filter-no : (x : A) (xs : List A) → f x ≡ false → filter f (x ∷ xs) ≡ filter f xs
  filter-no x xs e = cond-false (f x) (x ∷ filter f xs) (filter f xs) e

  pub filter-all : (P : A → Type 0) (xs : List A) → All P xs → All P (filter f xs)
  filter-all P [] a = tt
  filter-all P (x ∷ xs) a =
      ⊎_elim
      (λ (e : f x ≡ true). subst (All P) (sym (filter-yes x xs e)) (a.0, filter-all P xs a.1))
      (λ (e : f x ≡ false). subst (All P) (sym (filter-no x xs e)) (filter-all P xs a.1))
      (bool_cases (f x))

  pub filter-fewer : (xs : List A) → length (filter f xs) ≤ length xs
  filter-fewer [] = omega arith
  filter-fewer (x ∷ xs) =
      ⊎_elim
      (λ (e : f x ≡ true). omega (arith, ap length (filter-yes x xs e), filter-fewer xs))
      (λ (e : f x ≡ false). omega (arith, ap length (filter-no x xs e), filter-fewer xs))
      (bool_cases (f x))

  pub filter-append : (xs ys : List A) → filter f (xs ++ ys) ≡ filter f xs ++ filter f ys
  filter-append [] ys = refl
  filter-append (x ∷ xs) ys =
      ⊎_elim
      (λ (e : f x ≡ true).
      filter-yes x (xs ++ ys) e ∙ ap (λ (l : List A). x ∷ l) (filter-append xs ys) ∙ ap (λ (l : List A). l ++ filter f ys) (sym (filter-yes x xs e)))
      (λ (e : f x ≡ false). filter-no x (xs ++ ys) e ∙ filter-append xs ys ∙ ap (λ (l : List A). l ++ filter f ys) (sym (filter-no x xs e)))
      (bool_cases (f x))

  -- A test that all pass leaves all; one that none passes, none.
  pub filter-whole : (xs : List A) → All (λ x. f x ≡ true) xs → filter f xs ≡ xs
  filter-whole [] a = refl
  filter-whole (x ∷ xs) a = filter-yes x xs a.0 ∙ ap (λ (l : List A). x ∷ l) (filter-whole xs a.1)

  pub filter_none : (xs : List A) → All (λ x. f x ≡ false) xs → filter f xs ≡ []
  filter_none [] a = refl
  filter_none (x ∷ xs) a = filter-no x xs a.0 ∙ filter_none xs a.1

  pub filter-pass : (xs : List A) → All (λ x. f x ≡ true) (filter f xs)
  filter-pass [] = tt
  filter-pass (x ∷ xs) =
      ⊎_elim
      (λ (e : f x ≡ true). subst (All (λ y. f y ≡ true)) (sym (filter-yes x xs e)) (e, filter-pass xs))
      (λ (e : f x ≡ false). subst (All (λ y. f y ≡ true)) (sym (filter-no x xs e)) (filter-pass xs))
      (bool_cases (f x))

pub all_replicate : {A : Type 0} (P : A → Type 0) (n : ℕ) (x : A) → P x → All P (replicate n x)
all_replicate P zero x p = tt
all_replicate P (suc n) x p = (p, all_replicate P n x p)

pub filter-replicate : {A : Type 0} (f : A → Bool) (n : ℕ) (x : A) → f x ≡ false → filter f (replicate n x) ≡ []
filter-replicate f n x e = filter_none f (replicate n x) (all_replicate (λ y. f y ≡ false) n x e)

-- Two tests that agree.
pub filter-same-on : {A : Type 0} (f g : A → Bool) (xs : List A) → All (λ x. f x ≡ g x) xs → filter f xs ≡ filter g xs
filter-same-on f g [] a = refl
filter-same-on f g (x ∷ xs) a = ap₂ (λ (b : Bool) (l : List _). cond b (x ∷ l) l) a.0 (filter-same-on f g xs a.1)

pub filter_same : {A : Type 0} (f g : A → Bool) → ((x : A) → f x ≡ g x) → (xs : List A) → filter f xs ≡ filter g xs
filter_same f g e xs = filter-same-on f g xs (all-every e xs)

-- How many pass, with one element more at the front; and where none does.
pub count-first : {A : Type 0} (f : A → Bool) (x : A) (xs : List A) → length (filter f (x ∷ xs)) ≡ cond (f x) 1 0 + length (filter f xs)
count-first f x xs =
    ⊎_elim
    (λ (t : f x ≡ true). ap length (filter-yes f x xs t) ∙ omega (arith, cond-true {A = ℕ} (f x) 1 0 t))
    (λ (t : f x ≡ false). ap length (filter-no f x xs t) ∙ omega (arith, cond-false {A = ℕ} (f x) 1 0 t))
    (bool_cases (f x))

pub none_of : {A : Type 0} (g : A → Bool) (ys : List A) → length (filter g ys) ≡ 0 → All (λ y. g y ≡ false) ys
none_of g [] z = tt
none_of g (y ∷ ys) z =
    ⊎_elim
    (λ (t : g y ≡ true). absurd (omega (arith, ap length (filter-yes g y ys t))))
    (λ (t : g y ≡ false). (t, none_of g ys (sym (ap length (filter-no g y ys t)) ∙ z)))
    (bool_cases (g y))
