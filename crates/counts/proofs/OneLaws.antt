-- Numbers of numbers.
-- Assumes nothing.
use Prim.Native.Nat.{ℕ, suc, ◌+◌, ◌≤◌, ◌<◌}
use mathlib.Core.Path.{◌≡◌, refl, sym, ◌∙◌}
use mathlib.Core.Logic.{by_cases}
use mathlib.Core.Bool.{Bool, true, false}
use mathlib.Core.List.{List, [], ◌∷◌, ◌++◌}
use native.Mathlib.Decide.{dec_le}
use native.Mathlib.Omega.{arith}
use lib.Dec.{leb, eqb}
use borrow.Author.Tests.{le-leb, lt-leb, eq-eqb, ne_eqb}
use Rattle.prefix.specs.declared.Prefix.{Prefix}
use Rattle.free_space.specs.Serving.{one?, number}
use Rattle.counts.specs.InnerLevels.{equal_to, up_to, lengths}

pub one-few : (b : Bool) → one? b ≤ 1
one-few true = omega arith
one-few false = omega arith

module _ (a l : ℕ) where
  pub one-eq : a ≡ l → one? (eqb a l) ≡ 1
  one-eq h = rw (eq-eqb a l h)

  pub one-not : (a ≡ l → ⊥) → one? (eqb a l) ≡ 0
  one-not h = rw (ne_eqb a l h)

  pub one-lt : a < l → one? (eqb a l) ≡ 0
  one-lt h = rw (ne_eqb a l (λ e. omega arith))

  pub one-gt : l < a → one? (eqb a l) ≡ 0
  one-gt h = rw (ne_eqb a l (λ e. omega arith))

  pub one-le : a ≤ l → one? (leb a l) ≡ 1
  one-le h = rw (le-leb a l h)

  pub one-over : l < a → one? (leb a l) ≡ 0
  one-over h = rw (lt-leb a l h)

-- Up to l are those that are l and those below it.
pub one-step : (a l : ℕ) → one? (leb a l) ≡ one? (eqb a l) + one? (leb (a + 1) l)
one-step a l =
    by_cases (dec_le a l)
    (λ h. by_cases (dec_le l a)
    (λ g. omega (arith, one-le a l h, one-eq a l (omega arith), one-over (a + 1) l (omega arith)))
    (λ g. omega (arith, one-le a l h, one-lt a l (omega arith), one-le (a + 1) l (omega arith))))
    (λ h. omega (arith, one-over a l (omega arith), one-gt a l (omega arith), one-over (a + 1) l (omega arith)))

pub one-next : (a l : ℕ) → one? (leb a (suc l)) ≡ one? (leb a l) + one? (eqb a (suc l))
one-next a l =
    by_cases (dec_le a l)
    (λ h. omega (arith, one-le a l h, one-lt a (suc l) (omega arith), one-le a (suc l) (omega arith)))
    (λ h. by_cases (dec_le a (suc l))
    (λ g. omega (arith, one-over a l (omega arith), one-eq a (suc l) (omega arith), one-le a (suc l) g))
    (λ g. omega (arith, one-over a l (omega arith), one-gt a (suc l) (omega arith), one-over a (suc l) (omega arith))))

pub one_shift : (a l : ℕ) → one? (eqb (a + 1) (suc l)) ≡ one? (eqb a l)
one_shift a l =
    by_cases (dec_le a l)
    (λ h. by_cases (dec_le l a)
    (λ g. one-eq (a + 1) (suc l) (omega arith) ∙ sym (one-eq a l (omega arith)))
    (λ g. one-lt (a + 1) (suc l) (omega arith) ∙ sym (one-lt a l (omega arith))))
    (λ h. one-gt (a + 1) (suc l) (omega arith) ∙ sym (one-gt a l (omega arith)))

-- lists

pub equal-append : (l : ℕ) (xs ys : List ℕ) → equal_to l (xs ++ ys) ≡ equal_to l xs + equal_to l ys
equal-append l [] ys = omega arith
equal-append l (x ∷ xs) ys = omega (arith, equal-append l xs ys)

pub up-append : (l : ℕ) (xs ys : List ℕ) → up_to l (xs ++ ys) ≡ up_to l xs + up_to l ys
up-append l [] ys = omega arith
up-append l (x ∷ xs) ys = omega (arith, up-append l xs ys)

pub up_next : (l : ℕ) (xs : List ℕ) → up_to (suc l) xs ≡ up_to l xs + equal_to (suc l) xs
up_next l [] = refl
up_next l (x ∷ xs) = omega (arith, one-next x l, up_next l xs)

pub lengths-append : (l : ℕ) (xs ys : List Prefix) → up_to l (lengths (xs ++ ys)) ≡ up_to l (lengths xs) + up_to l (lengths ys)
lengths-append l [] ys = omega arith
lengths-append l (x ∷ xs) ys = omega (arith, lengths-append l xs ys)

pub number_append : (l : ℕ) (xs ys : List Prefix) → number l (xs ++ ys) ≡ number l xs + number l ys
number_append l [] ys = omega arith
number_append l (x ∷ xs) ys = omega (arith, number_append l xs ys)
