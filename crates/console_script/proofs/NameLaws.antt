-- Words compared byte by byte.
-- Assumes nothing.
use Prim.Native.Nat.{ℕ}
use native.Mathlib.Omega.{arith}
use mathlib.Core.Path.{◌≡◌, refl, sym, ap, ap₂, ◌∙◌}
use mathlib.Core.Bool.{Bool, true}
use mathlib.Core.List.{List, [], ◌∷◌}
use lib.Dec.{eqb}
use borrow.Author.Tests.{eqb-true, eq-eqb}
use Rattle.lists.proofs.Tests.{and-to, bool-ext}
use Rattle.console_script.specs.Parsing.{same?}

equal : (xs ys : List ℕ) → same? xs ys ≡ true → xs ≡ ys
unfolding same?
equal [] [] e = refl
equal [] (y ∷ ys) e = let z : ◌≡◌ {A = ℕ} 0 1 = cc in absurd (omega arith)
equal (x ∷ xs) [] e = let z : ◌≡◌ {A = ℕ} 0 1 = cc in absurd (omega arith)
equal (x ∷ xs) (y ∷ ys) e = let p = and-to (eqb x y) (same? xs ys) e in ap₂ (λ (a : ℕ) (l : List ℕ). a ∷ l) (eqb-true x y p.0) (equal xs ys p.1)

reflexive : (xs : List ℕ) → same? xs xs ≡ true
unfolding same?
reflexive [] = refl
reflexive (x ∷ xs) = rw (eq-eqb x x refl) (reflexive xs)

pub same-is : (xs ys : List ℕ) (r : Bool) → (r ≡ true → xs ≡ ys) → (xs ≡ ys → r ≡ true) → r ≡ same? xs ys
same-is xs ys r to from = bool-ext r (same? xs ys) (λ e. ap (same? xs) (sym (to e)) ∙ reflexive xs) (λ e. from (equal xs ys e))
