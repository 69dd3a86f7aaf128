-- The row of a pool filled from its length on, and that of a pool without leases.
-- Assumes nothing.
use Prim.Native.Nat.{ℕ, zero, suc, ◌+◌, ◌-◌, ◌≤◌, ◌<◌}
use mathlib.Core.Path.{◌≡◌, refl, sym, ap, ap₂, ◌∙◌}
use mathlib.Core.List.{List, [], ◌∷◌, ◌++◌, append-nil, append_assoc}
use native.Mathlib.Numerals.{add-one}
use native.Mathlib.Omega.{arith}
use lib.ListN.{length, take, get_or, set, replicate}
use lib.Seq.{take-suc-set, take_all}
use lib.Dec.{eqb}
use Rattle.table.specs.Table.{shortest_pool}
use Rattle.free_space.specs.Serving.{one?}
use Rattle.counts.specs.Counts.{counted_lengths}
use Rattle.counts.specs.InnerLevels.{frees_after}
use Rattle.counts.proofs.OneLaws.{one-eq, one-lt, one-gt}
use Rattle.image_counts.specs.InnerTally.{total, free_on, frees_on}

total-up-to : (l : List ℕ) (k d : ℕ) → total k l ≤ total (d + k) l
unfolding total
total-up-to l k zero = let same : k ≡ zero + k = omega arith in omega (arith, ap (λ (j : ℕ). total j l) same)
total-up-to l k (suc d) = let next : suc d + k ≡ suc (d + k) = omega arith in omega (arith, total-up-to l k d, ap (λ (j : ℕ). total j l) next)

total-less : (l : List ℕ) (k m : ℕ) → k ≤ m → total m l ≡ 0 → total k l ≡ 0
total-less l k m h e = let same : m - k + k ≡ m = omega arith in omega (arith, e, total-up-to l k (m - k), ap (λ (j : ℕ). total j l) same)

total-start : (l : List ℕ) (pool j : ℕ) → total (pool - 1) l ≡ 0 → j + shortest_pool ≡ pool → 0 ≡ total (j + 7) l
total-start l pool j e ej = let place : pool - 1 ≡ j + 7 = omega arith in sym e ∙ ap (λ (m : ℕ). total m l) place

-- FILLING

module _ (pool : ℕ) (opened closed : List ℕ) where
  frees-first : (l k : ℕ) → frees_on pool opened closed l (suc k) ≡ free_on pool opened closed l ∷ frees_on pool opened closed (suc l) k
  unfolding frees_on
  frees-first l k = refl

  frees-none : (l : ℕ) → frees_on pool opened closed l 0 ≡ []
  unfolding frees_on
  frees-none l = refl

  -- Nothing is free below the pool's length.
  frees-below : total (pool - 1) opened ≡ 0 → (l j k : ℕ) → l + j < pool → frees_on pool opened closed l (j + k) ≡ replicate {A = ℕ} j 0 ++ frees_on pool opened closed (l + j) k
  frees-below e l zero k h = let same : l ≡ l + 0 = omega arith in let none : 0 + k ≡ k = omega arith in ap₂ (frees_on pool opened closed) same none
  frees-below e l (suc j) k h =
      let next : suc l + j ≡ l + suc j = omega arith in
      let none : free_on pool opened closed l ≡ 0 = omega (arith, total-less opened l (pool - 1) (omega arith) e, one-gt pool (suc l) (omega arith)) in
      let more : suc j + k ≡ suc (j + k) = omega arith in
      ap (frees_on pool opened closed l) more
      ∙ frees-first l (j + k)
      ∙ ap₂ (λ (m : ℕ) (ms : List ℕ). m ∷ ms) none (frees-below e (suc l) j k (omega arith))
      ∙ ap (λ (m : ℕ). 0 ∷ (replicate {A = ℕ} j 0 ++ frees_on pool opened closed m k)) next

  row-start : total (pool - 1) opened ≡ 0 → (j : ℕ) → j + shortest_pool ≡ pool → j ≤ counted_lengths
      → take j (replicate {A = ℕ} counted_lengths 0) ++ frees_on pool opened closed (j + 7) (counted_lengths - j) ≡ frees_on pool opened closed 7 counted_lengths
  row-start e j ej le =
      let all : j + (counted_lengths - j) ≡ counted_lengths = omega arith in
      let at : 7 + j ≡ j + 7 = omega arith in
      ap₂ (λ (zs : List ℕ) (m : ℕ). zs ++ frees_on pool opened closed m (counted_lengths - j)) (take-zeros j counted_lengths le) (sym at)
      ∙ sym (frees-below e 7 j (counted_lengths - j) (omega arith))
      ∙ ap (frees_on pool opened closed 7) all
    where
      take-zeros : (j n : ℕ) → j ≤ n → take j (replicate {A = ℕ} n 0) ≡ replicate {A = ℕ} j 0
      take-zeros zero n h = refl
      take-zeros (suc j) zero h = absurd (omega arith)
      take-zeros (suc j) (suc n) h = ap (λ (zs : List ℕ). 0 ∷ zs) (take-zeros j n (omega arith))

  row_more : (row : List ℕ) (j v : ℕ) → j < counted_lengths → length row ≡ counted_lengths → v ≡ free_on pool opened closed (j + 7)
      → take j row ++ frees_on pool opened closed (j + 7) (counted_lengths - j) ≡ frees_on pool opened closed 7 counted_lengths
      → take (j + 1) (set row j v) ++ frees_on pool opened closed (j + 1 + 7) (counted_lengths - (j + 1)) ≡ frees_on pool opened closed 7 counted_lengths
  row_more row j v lt size ev e =
      let less : counted_lengths - j ≡ suc (counted_lengths - (j + 1)) = omega arith in
      let place : j + 1 + 7 ≡ suc (j + 7) = omega arith in
      let rest : List ℕ = frees_on pool opened closed (suc (j + 7)) (counted_lengths - (j + 1)) in
      ap₂ (λ (front : List ℕ) (l : ℕ). front ++ frees_on pool opened closed l (counted_lengths - (j + 1)))
      (ap (λ (m : ℕ). take m (set row j v)) (add-one j) ∙ take-suc-set row j v (omega arith)) place
      ∙ append_assoc (take j row) (v ∷ []) rest
      ∙ ap (λ (m : ℕ). take j row ++ (m ∷ rest)) ev
      ∙ ap (λ (l : List ℕ). take j row ++ l) (sym (ap (frees_on pool opened closed (j + 7)) less ∙ frees-first (j + 7) (counted_lengths - (j + 1))))
      ∙ e

  free-is : (j one up down r : ℕ) → one ≡ one? (eqb pool (j + 8)) → up ≡ total (j + 7) opened → down ≡ total (j + 7) closed
      → r ≡ one + up - (get_or opened (j + 8) 0 + down) → r ≡ free_on pool opened closed (j + 7)
  free-is j one up down r eo eu ed er =
      let place : j + 8 ≡ suc (j + 7) = omega arith in
      omega (arith, er, eo, eu, ed, ap (λ (m : ℕ). one? (eqb pool m)) place, ap (λ (m : ℕ). get_or opened m 0) place)

  -- The place of the pool's length, where the pool itself counts, and each later one.
  pub row_first : total (pool - 1) opened ≡ 0 → total (pool - 1) closed ≡ 0 → (j v : ℕ) → j + shortest_pool ≡ pool → j < counted_lengths → v ≡ 1 - get_or opened pool 0
      → take (j + 1) (set (replicate {A = ℕ} counted_lengths 0) j v) ++ frees_on pool opened closed (j + 1 + 7) (counted_lengths - (j + 1)) ≡ frees_on pool opened closed 7 counted_lengths
  row_first eo ec j v ej lt ev =
      row_more (replicate {A = ℕ} counted_lengths 0) j v lt refl
      (free-is j 1 0 0 v (sym (one-eq pool (j + 8) (omega arith))) (total-start opened pool j eo ej) (total-start closed pool j ec ej) (omega (arith, ev, ap (λ (m : ℕ). get_or opened m 0) ej)))
      (row-start eo j ej (omega arith))

  pub row_next : (row : List ℕ) (j up down v : ℕ) → j < counted_lengths → pool < j + 8 → length row ≡ counted_lengths → up ≡ total (j + 7) opened → down ≡ total (j + 7) closed
      → v ≡ up - (get_or opened (j + 8) 0 + down)
      → take j row ++ frees_on pool opened closed (j + 7) (counted_lengths - j) ≡ frees_on pool opened closed 7 counted_lengths
      → take (j + 1) (set row j v) ++ frees_on pool opened closed (j + 1 + 7) (counted_lengths - (j + 1)) ≡ frees_on pool opened closed 7 counted_lengths
  row_next row j up down v lt past size eu ed ev e = row_more row j v lt size (free-is j 0 up down v (sym (one-lt pool (j + 8) past)) eu ed (omega (arith, ev))) e

  pub row-all : (row : List ℕ) (j : ℕ) → j ≤ counted_lengths → counted_lengths ≤ j → length row ≡ counted_lengths
      → take j row ++ frees_on pool opened closed (j + 7) (counted_lengths - j) ≡ frees_on pool opened closed 7 counted_lengths → row ≡ frees_on pool opened closed 7 counted_lengths
  row-all row j le ge size e =
      let none : counted_lengths - j ≡ 0 = omega arith in
      sym (take_all j row (omega arith))
      ∙ sym (append-nil (take j row))
      ∙ ap (λ (l : List ℕ). take j row ++ l) (sym (ap (frees_on pool opened closed (j + 7)) none ∙ frees-none (j + 7)))
      ∙ e

pub total-more : (l : List ℕ) (j up : ℕ) → up ≡ total (j + 7) l → up + get_or l (j + 8) 0 ≡ total (j + 1 + 7) l
unfolding total
total-more l j up e =
    let place : j + 1 + 7 ≡ suc (j + 7) = omega arith in
    let here : j + 8 ≡ suc (j + 7) = omega arith in
    omega (arith, e, ap (λ (m : ℕ). total m l) place, ap (λ (m : ℕ). get_or l m 0) here)

pub total_first : (l : List ℕ) (pool j : ℕ) → total (pool - 1) l ≡ 0 → j + shortest_pool ≡ pool → get_or l pool 0 ≡ total (j + 1 + 7) l
total_first l pool j e ej = omega (arith, total-more l j 0 (total-start l pool j e ej), ap (λ (m : ℕ). get_or l m 0) ej)

-- WITHOUT LEASES

bare-after : (pool l k : ℕ) → pool ≤ l → frees_after pool [] [] l k ≡ replicate {A = ℕ} k 0
unfolding frees_after
bare-after pool l zero h = refl
bare-after pool l (suc k) h = ap₂ (λ (m : ℕ) (ms : List ℕ). m ∷ ms) (omega (arith, one-lt pool (suc l) (omega arith))) (bare-after pool (suc l) k (omega arith))

pub bare-is : (pool l j k : ℕ) → l + suc j ≡ pool → j < k → set (replicate {A = ℕ} k 0) j 1 ≡ frees_after pool [] [] l k
unfolding frees_after
bare-is pool l j zero e h = absurd (omega arith)
bare-is pool l zero (suc k) e h =
    sym (ap₂ (λ (m : ℕ) (ms : List ℕ). m ∷ ms) (omega (arith, one-eq pool (suc l) (omega arith))) (bare-after pool (suc l) k (omega arith)))
bare-is pool l (suc j) (suc k) e h =
    ap₂ (λ (m : ℕ) (ms : List ℕ). m ∷ ms) (sym (omega (arith, one-gt pool (suc l) (omega arith)))) (bare-is pool (suc l) j k (omega arith) (omega arith))
