-- Laws of how many of the first numbers of a column are not a given one.
-- Assumes nothing.
use Prim.Native.Nat.{ℕ, zero, suc, ◌+◌, ◌≤◌, ◌<◌}
use mathlib.Core.Path.{◌≡◌, refl, ap, ap₂, ◌∙◌}
use mathlib.Core.Logic.{⊎_elim}
use mathlib.Core.Bool.{true, false, not}
use mathlib.Core.List.{List, [], ◌∷◌}
use native.Mathlib.Omega.{arith}
use native.Mathlib.Numerals.{add-one}
use lib.Dec.{eqb}
use lib.ListN.{length, set, get_or, take, replicate, length-append, length-set}
use lib.Seq.{take-suc, take-take, take-set-le, get_or-set_same}
use borrow.Author.Tests.{eq-eqb, ne_eqb, eqb-false}
use Rattle.lists.specs.Lists.{All, filter}
use Rattle.lists.proofs.Tests.{bool_cases}
use Rattle.lists.proofs.FilterLaws.{filter-append, filter-fewer}
use Rattle.ask_again.specs.Places.{others_in}

module _ (one : ℕ) where
  abbrev others : List ℕ → List ℕ
  others ms = filter (λ m. not (eqb m one)) ms

  -- None of them.
  pub others-none : (n k : ℕ) → others_in one (replicate n one) k ≡ 0
  others-none n zero = refl
  others-none zero (suc k) = refl
  others-none (suc n) (suc k) = rw (eq-eqb one one refl) (others-none n k)

  pub others-few : (column : List ℕ) (n : ℕ) → others_in one column n ≤ length (take n column)
  others-few column n = filter-fewer (λ m. not (eqb m one)) (take n column)

  pub others-first : (column : List ℕ) (n : ℕ) → others_in one (take n column) n ≡ others_in one column n
  others-first column n = ap (λ (ms : List ℕ). length (others ms)) (take-take n n column (omega arith))

  -- All of them.
  pub others-all : (ms : List ℕ) → length (others ms) ≡ length ms → All (λ m. m ≡ one → ⊥) ms
  others-all [] e = tt
  others-all (m ∷ ms) e =
      ⊎_elim
      (λ (b : eqb m one ≡ true). absurd (fewer b))
      (λ (b : eqb m one ≡ false). (eqb-false m one b, others-all ms (rest b)))
      (bool_cases (eqb m one))
    where
      fewer : eqb m one ≡ true → ⊥
      fewer b = let k : length (others ms) ≡ suc (length ms) = rw b at e in omega (arith, filter-fewer (λ m. not (eqb m one)) ms)

      rest : eqb m one ≡ false → length (others ms) ≡ length ms
      rest b = let k : suc (length (others ms)) ≡ suc (length ms) = rw b at e in omega arith

  -- One number more, behind the others.
  others-next : (column : List ℕ) (j : ℕ) → j < length column → others_in one column (j + 1) ≡ others_in one column j + length (others (get_or column j 0 ∷ []))
  others-next column j h =
      ap (others_in one column) (add-one j)
      ∙ ap (λ (ms : List ℕ). length (others ms)) (take-suc column j 0 h)
      ∙ ap length (filter-append (λ m. not (eqb m one)) (take j column) (get_or column j 0 ∷ []))
      ∙ length-append (others (take j column)) (others (get_or column j 0 ∷ []))

  module _ (column : List ℕ) (j m : ℕ) (h : j < length column) where
    next-set : others_in one (set column j m) (j + 1) ≡ others_in one column j + length (others (m ∷ []))
    next-set =
        others-next (set column j m) j (omega (arith, length-set column j m))
        ∙ ap₂ (λ (ms : List ℕ) (k : ℕ). length (others ms) + length (others (k ∷ []))) (take-set-le j column j m (omega arith)) (get_or-set_same column j m 0 h)

    pub others_same : m ≡ one → others_in one (set column j m) (j + 1) ≡ others_in one column j
    others_same z = next-set ∙ rw (eq-eqb m one z) (omega arith)

    pub others-more : (m ≡ one → ⊥) → others_in one (set column j m) (j + 1) ≡ others_in one column j + 1
    others-more z = next-set ∙ rw (ne_eqb m one z)

  -- A number stored among the first n in the place of this one.
  pub others-stored : (ms : List ℕ) (n j m : ℕ) → j < n → j < length ms → get_or ms j 0 ≡ one → (m ≡ one → ⊥) → others_in one (set ms j m) n ≡ others_in one ms n + 1
  others-stored [] n j m l h e z = absurd (omega arith)
  others-stored (k ∷ ms) zero j m l h e z = absurd (omega arith)
  others-stored (k ∷ ms) (suc n) zero m l h e z = rw (ne_eqb m one z, eq-eqb k one e) (omega arith)
  others-stored (k ∷ ms) (suc n) (suc j) m l h e z =
      let rest = others-stored ms n j m (omega arith) (omega arith) e z in
      ⊎_elim
      (λ (b : eqb k one ≡ true). rw b rest)
      (λ (b : eqb k one ≡ false). rw b (omega (arith, rest)))
      (bool_cases (eqb k one))
