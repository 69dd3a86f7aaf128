-- Laws of the first n elements of a list: how many they are.
-- Assumes nothing.
use Prim.Native.Nat.{ℕ, ◌≤◌, ◌<◌}
use mathlib.Core.Path.{◌≡◌, ap}
use mathlib.Core.Logic.{⊎_elim}
use mathlib.Core.Bool.{true, false}
use mathlib.Core.List.{List}
use native.Mathlib.Omega.{arith}
use lib.ListN.{length, take}
use lib.Seq.{length-take-le, take_all}
use lib.Dec.{leb}
use borrow.Author.Tests.{leb-true, leb-false}
use Rattle.lists.proofs.Tests.{bool_cases}

pub take_short : {A : Type 0} (n : ℕ) (xs : List A) → length (take n xs) ≤ n
take_short n xs =
    ⊎_elim (λ (b : leb n (length xs) ≡ true). omega (arith, length-take-le n xs (leb-true n (length xs) b)))
    (λ (b : leb n (length xs) ≡ false). let lt = leb-false n (length xs) b in omega (arith, ap length (take_all n xs (omega arith))))
    (bool_cases (leb n (length xs)))

pub short_none : {A : Type 0} (n : ℕ) (xs : List A) → 0 < n → length (take n xs) ≡ 0 → length xs ≡ 0
short_none n xs p e =
    ⊎_elim (λ (b : leb n (length xs) ≡ true). absurd (omega (arith, length-take-le n xs (leb-true n (length xs) b))))
    (λ (b : leb n (length xs) ≡ false). let lt = leb-false n (length xs) b in omega (arith, ap length (take_all n xs (omega arith))))
    (bool_cases (leb n (length xs)))

pub short-of : {A : Type 0} (n : ℕ) (xs : List A) → length xs ≡ 0 → length (take n xs) ≡ 0
short-of n xs e = omega (arith, ap length (take_all n xs (omega arith)))
