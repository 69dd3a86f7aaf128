-- Laws of the rows of the leases that are present.
-- Assumes nothing.
use Prim.Native.Nat.{ℕ, zero, suc, ◌+◌, ◌-◌, ◌≤◌, ◌<◌}
use native.Mathlib.Omega.{arith}
use native.Mathlib.Numerals.{add-one}
use mathlib.Core.Path.{◌≡◌, refl, sym, ap, ◌∙◌}
use mathlib.Core.Logic.{⊎_elim}
use mathlib.Core.Bool.{Bool, true, false, cond}
use mathlib.Core.List.{List, [], ◌∷◌, ◌++◌, append-nil}
use lib.ListN.{length, get_or, take, drop, replicate}
use lib.Seq.{take_all}
use lib.Dec.{ltb}
use borrow.Author.Tests.{lt-ltb, le-ltb}
use Rattle.lists.proofs.Tests.{bool_cases, cond-true, cond-false}
use Rattle.lists.proofs.FilterLaws.{filter-yes, filter-no}
use Rattle.table.specs.declared.Lease.{Lease}
use Rattle.table.specs.Table.{no_lease, present}
use Rattle.figures.specs.declared.FigureRow.{FigureRow}
use Rattle.figures.specs.Figures.{empty_row, kept_rows}

cond-append : (b : Bool) (r : FigureRow) (xs ys : List FigureRow) → cond b (r ∷ (xs ++ ys)) (xs ++ ys) ≡ cond b (r ∷ xs) xs ++ ys
cond-append true r xs ys = refl
cond-append false r xs ys = refl

module _ (time : ℕ) where
  pub kept-yes : (x : Lease) (xs : List Lease) (r : FigureRow) (rows : List FigureRow) → ltb time x.expires ≡ true → kept_rows time (x ∷ xs) (r ∷ rows) ≡ r ∷ kept_rows time xs rows
  kept-yes x xs r rows t = cond-true (ltb time x.expires) (r ∷ kept_rows time xs rows) (kept_rows time xs rows) t

  pub kept-no : (x : Lease) (xs : List Lease) (r : FigureRow) (rows : List FigureRow) → ltb time x.expires ≡ false → kept_rows time (x ∷ xs) (r ∷ rows) ≡ kept_rows time xs rows
  kept-no x xs r rows t = cond-false (ltb time x.expires) (r ∷ kept_rows time xs rows) (kept_rows time xs rows) t

  -- ONE BY ONE

  kept-suc : (xs : List Lease) (rows : List FigureRow) (i : ℕ) → i < length xs → i < length rows
      → kept_rows time (take (suc i) xs) rows ≡ kept_rows time (take i xs) rows ++ kept_rows time (get_or xs i no_lease ∷ []) (get_or rows i empty_row ∷ [])
  kept-suc [] rows i h j = absurd (omega arith)
  kept-suc (x ∷ xs) [] i h j = absurd (omega arith)
  kept-suc (x ∷ xs) (r ∷ rows) zero h j = refl
  kept-suc (x ∷ xs) (r ∷ rows) (suc i) h j =
      let t : List FigureRow = kept_rows time (get_or xs i no_lease ∷ []) (get_or rows i empty_row ∷ []) in
      ap (λ (l : List FigureRow). cond (ltb time x.expires) (r ∷ l) l) (kept-suc xs rows i (omega arith) (omega arith))
      ∙ cond-append (ltb time x.expires) r (kept_rows time (take i xs) rows) t

  module _ (xs : List Lease) (rows : List FigureRow) (i : ℕ) (h : i < length xs) (j : i < length rows) where
    pub kept_more : time < (get_or xs i no_lease).expires → kept_rows time (take (i + 1) xs) rows ≡ kept_rows time (take i xs) rows ++ (get_or rows i empty_row ∷ [])
    kept_more e =
        ap (λ (k : ℕ). kept_rows time (take k xs) rows) (add-one i)
        ∙ kept-suc xs rows i h j
        ∙ ap (λ (l : List FigureRow). kept_rows time (take i xs) rows ++ l)
        (cond-true (ltb time (get_or xs i no_lease).expires) (get_or rows i empty_row ∷ []) [] (lt-ltb time (get_or xs i no_lease).expires e))

    pub kept-skip : (get_or xs i no_lease).expires ≤ time → kept_rows time (take (i + 1) xs) rows ≡ kept_rows time (take i xs) rows
    kept-skip e =
        ap (λ (k : ℕ). kept_rows time (take k xs) rows) (add-one i)
        ∙ kept-suc xs rows i h j
        ∙ ap (λ (l : List FigureRow). kept_rows time (take i xs) rows ++ l)
        (cond-false (ltb time (get_or xs i no_lease).expires) (get_or rows i empty_row ∷ []) [] (le-ltb time (get_or xs i no_lease).expires e))
        ∙ append-nil (kept_rows time (take i xs) rows)

  -- SEVERAL

  -- Rows of leases that are all present stay.
  pub kept-first : (m : ℕ) (xs : List Lease) (rows : List FigureRow) → m ≤ length xs → m ≤ length rows → ((k : ℕ) → k < m → time < (get_or xs k no_lease).expires)
      → kept_rows time (take m xs) rows ≡ take m rows
  kept-first zero xs rows h j p = refl
  kept-first (suc m) [] rows h j p = absurd (omega arith)
  kept-first (suc m) (x ∷ xs) [] h j p = absurd (omega arith)
  kept-first (suc m) (x ∷ xs) (r ∷ rows) h j p =
      kept-yes x (take m xs) r rows (lt-ltb time x.expires (p 0 (omega arith)))
      ∙ ap (λ (l : List FigureRow). r ∷ l) (kept-first m xs rows (omega arith) (omega arith) (λ k lt. p (suc k) (omega arith)))

  -- There is one for each lease that is present.
  pub kept-count : (xs : List Lease) (rows : List FigureRow) → length xs ≤ length rows → length (kept_rows time xs rows) ≡ length (present time xs)
  unfolding present
  kept-count [] rows h = refl
  kept-count (x ∷ xs) [] h = absurd (omega arith)
  kept-count (x ∷ xs) (r ∷ rows) h =
      let rest = kept-count xs rows (omega arith) in
      ⊎_elim
      (λ (t : ltb time x.expires ≡ true).
      ap length (kept-yes x xs r rows t) ∙ ap suc rest ∙ sym (ap length (filter-yes (λ (y : Lease). ltb time y.expires) x xs t)))
      (λ (t : ltb time x.expires ≡ false).
      ap length (kept-no x xs r rows t) ∙ rest ∙ sym (ap length (filter-no (λ (y : Lease). ltb time y.expires) x xs t)))
      (bool_cases (ltb time x.expires))

  -- Empty slots keep no row, so the rows of a table's slots are those of its leases.
  nothing-kept : (m : ℕ) (rows : List FigureRow) → kept_rows time (replicate m no_lease) rows ≡ []
  nothing-kept zero rows = refl
  nothing-kept (suc m) [] = refl
  nothing-kept (suc m) (r ∷ rows) = kept-no no_lease (replicate m no_lease) r rows (le-ltb time 0 (omega arith)) ∙ nothing-kept m rows

  pub kept-padded : (xs : List Lease) (m : ℕ) (rows : List FigureRow) → kept_rows time (xs ++ replicate m no_lease) rows ≡ kept_rows time xs rows
  kept-padded [] m rows = nothing-kept m rows
  kept-padded (x ∷ xs) m [] = refl
  kept-padded (x ∷ xs) m (r ∷ rows) = ap (λ (l : List FigureRow). cond (ltb time x.expires) (r ∷ l) l) (kept-padded xs m rows)

  -- Where all leases from a place on are present, the rows there follow those kept before.
  pub kept_from : (last n : ℕ) (xs : List Lease) (rows : List FigureRow) → n ≡ length xs → last ≤ n → n ≤ length rows → ((k : ℕ) → last ≤ k → k < n → time < (get_or xs k no_lease).expires)
      → kept_rows time xs rows ≡ kept_rows time (take last xs) rows ++ take (n - last) (drop last rows)
  kept_from zero n xs rows e h j p =
      let all : take n xs ≡ xs = take_all n xs (omega arith) in
      let less : n ≡ n - 0 = omega arith in
      sym (ap (λ (ys : List Lease). kept_rows time ys rows) all)
      ∙ kept-first n xs rows (omega arith) j (λ k lt. p k (omega arith) lt)
      ∙ ap (λ (k : ℕ). take k rows) less
  kept_from (suc last) n [] rows e h j p = absurd (omega arith)
  kept_from (suc last) n (x ∷ xs) [] e h j p = absurd (omega arith)
  kept_from (suc last) zero (x ∷ xs) (r ∷ rows) e h j p = absurd (omega arith)
  kept_from (suc last) (suc n) (x ∷ xs) (r ∷ rows) e h j p =
      let less : n - last ≡ suc n - suc last = omega arith in
      ap (λ (l : List FigureRow). cond (ltb time x.expires) (r ∷ l) l)
      (kept_from last n xs rows (omega arith) (omega arith) (omega arith) (λ k a b. p (suc k) (omega arith) (omega arith)))
      ∙ cond-append (ltb time x.expires) r (kept_rows time (take last xs) rows) (take (n - last) (drop last rows))
      ∙ ap (λ (k : ℕ). kept_rows time (x ∷ take last xs) (r ∷ rows) ++ take k (drop last rows)) less
