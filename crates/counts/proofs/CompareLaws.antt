-- Rows compared from one place on, and summed as the library does it.
-- Assumes nothing.
use Prim.Native.Nat.{ℕ, suc, ◌*◌, ◌+◌, ◌-◌, ◌≤◌, ◌<◌}
use mathlib.Core.Path.{◌≡◌, refl, sym, ap, ap₂, ◌∙◌}
use mathlib.Core.Bool.{Bool, true, false, ◌&&◌}
use mathlib.Core.List.{List, [], ◌∷◌}
use native.Mathlib.Omega.{arith}
use native.Mathlib.Decide.{dec_le}
use mathlib.Core.Logic.{by_cases}
use Rattle.std.proofs.Common.{lt_of_not-le}
use lib.ListN.{length, drop, get_or}
use lib.Dec.{eqb}
use borrow.Author.Tests.{eq-eqb, ne_eqb, le-leb, lt-leb}
use Rattle.lists.proofs.DropLaws.{drop_at, drop-end}
use Rattle.std.specs.List.{sum_by}
use Rattle.std.proofs.lemmas.List.Sums.{sum_by-cons}
use Rattle.prefix.specs.Prefixes.{longest}
use Rattle.table.specs.Table.{shortest_pool}
use Rattle.counts.specs.Counts.{same_row?, same_counts?, summed, sum_at, row_total, total}

-- COMPARING, from one place on

module _ (a b : List ℕ) (j : ℕ) where
  row_at : j < length a → j < length b → same_row? (drop j a) (drop j b) ≡ eqb (get_or a j 0) (get_or b j 0) && same_row? (drop (j + 1) a) (drop (j + 1) b)
  row_at h k = ap₂ same_row? (drop_at a j 0 h) (drop_at b j 0 k)

  pub row_more : j < length a → j < length b → get_or a j 0 ≡ get_or b j 0 → same_row? (drop j a) (drop j b) ≡ same_row? a b → same_row? (drop (j + 1) a) (drop (j + 1) b) ≡ same_row? a b
  row_more h k e w = sym (row_at h k ∙ ap (λ (t : Bool). t && same_row? (drop (j + 1) a) (drop (j + 1) b)) (eq-eqb (get_or a j 0) (get_or b j 0) e)) ∙ w

  pub row-differs : j < length a → j < length b → (get_or a j 0 ≡ get_or b j 0 → ⊥) → same_row? (drop j a) (drop j b) ≡ same_row? a b → false ≡ same_row? a b
  row-differs h k e w = sym (row_at h k ∙ ap (λ (t : Bool). t && same_row? (drop (j + 1) a) (drop (j + 1) b)) (ne_eqb (get_or a j 0) (get_or b j 0) e)) ∙ w

  pub row_same : length a ≤ j → length b ≤ j → same_row? (drop j a) (drop j b) ≡ same_row? a b → true ≡ same_row? a b
  row_same h k w = sym (ap₂ same_row? (drop-end a j h) (drop-end b j k)) ∙ w

same_first : (x y : List ℕ) (xs ys : List (List ℕ)) → same_counts? (x ∷ xs) (y ∷ ys) ≡ same_row? x y && same_counts? xs ys
unfolding same_counts?
same_first x y xs ys = refl

same_none : same_counts? [] [] ≡ true
unfolding same_counts?
same_none = refl

module _ (a b : List (List ℕ)) (j : ℕ) where
  counts-at : j < length a → j < length b → same_counts? (drop j a) (drop j b) ≡ same_row? (get_or a j []) (get_or b j []) && same_counts? (drop (j + 1) a) (drop (j + 1) b)
  counts-at h k = ap₂ same_counts? (drop_at a j [] h) (drop_at b j [] k) ∙ same_first (get_or a j []) (get_or b j []) (drop (j + 1) a) (drop (j + 1) b)

  pub counts-more : j < length a → j < length b → true ≡ same_row? (get_or a j []) (get_or b j []) → same_counts? (drop j a) (drop j b) ≡ same_counts? a b
      → same_counts? (drop (j + 1) a) (drop (j + 1) b) ≡ same_counts? a b
  counts-more h k e w = sym (counts-at h k ∙ ap (λ (t : Bool). t && same_counts? (drop (j + 1) a) (drop (j + 1) b)) (sym e)) ∙ w

  pub counts-differ : j < length a → j < length b → false ≡ same_row? (get_or a j []) (get_or b j []) → same_counts? (drop j a) (drop j b) ≡ same_counts? a b → false ≡ same_counts? a b
  counts-differ h k e w = sym (counts-at h k ∙ ap (λ (t : Bool). t && same_counts? (drop (j + 1) a) (drop (j + 1) b)) (sym e)) ∙ w

  pub counts_same : length a ≤ j → length b ≤ j → same_counts? (drop j a) (drop j b) ≡ same_counts? a b → true ≡ same_counts? a b
  counts_same h k w = sym (ap₂ same_counts? (drop-end a j h) (drop-end b j k) ∙ same_none) ∙ w

-- SUMMING, as std's `sum` sums.

module _ (c : List (List ℕ)) (len : ℕ) where
  pub sum_below : len < shortest_pool → 0 ≡ sum_at c len
  unfolding sum_at
  sum_below h = rw (lt-leb shortest_pool len h)

  pub sum-above : shortest_pool ≤ len → longest < len → 0 ≡ sum_at c len
  unfolding sum_at
  sum-above l h = rw (le-leb shortest_pool len l, lt-leb len longest h)

  pub sum-outside : (shortest_pool ≤ len → len ≤ longest → ⊥) → 0 ≡ sum_at c len
  sum-outside n = by_cases (dec_le shortest_pool len) (λ l. sum-above l (lt_of_not-le (n l))) (λ h. sum_below (lt_of_not-le h))

  pub sum-within : shortest_pool ≤ len → len ≤ longest → (n : ℕ) → n ≡ summed (len - shortest_pool) c → n ≡ sum_at c len
  unfolding sum_at
  sum-within l h n e = rw (le-leb shortest_pool len l, le-leb len longest h) e

pub summed-by : (j : ℕ) (rows : List (List ℕ)) → sum_by (λ (row : List ℕ). get_or row j 0) rows ≡ summed j rows
summed-by j [] = refl
summed-by j (row ∷ rows) = sum_by-cons (λ (row : List ℕ). get_or row j 0) row rows ∙ ap (λ (n : ℕ). get_or row j 0 + n) (summed-by j rows)

pub row-by : (row : List ℕ) → sum_by (λ n. n) row ≡ row_total row
row-by [] = refl
row-by (n ∷ row) = sum_by-cons (λ n. n) n row ∙ ap (λ (m : ℕ). n + m) (row-by row)

pub row-at-most : (row : List ℕ) → ((i : ℕ) → get_or row i 0 < 65536) → row_total row ≤ 65535 * length row
row-at-most [] h = omega arith
row-at-most (n ∷ row) h = let here : n < 65536 = h 0 in omega (arith, row-at-most row (λ i. h (suc i)))

pub total-by : (rows : List (List ℕ)) → sum_by row_total rows ≡ total rows
total-by [] = refl
total-by (row ∷ rows) = sum_by-cons row_total row rows ∙ ap (λ (m : ℕ). row_total row + m) (total-by rows)
