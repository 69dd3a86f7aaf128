-- Laws of spreading rows over leases: the leases from place k on have their rows, and the rows before them are those of earlier leases.
-- Assumes nothing.
use Prim.Native.Nat.{ℕ, zero, suc, ◌+◌, ◌-◌, ◌*◌, ◌≤◌, ◌<◌}
use native.Mathlib.Omega.{arith}
use native.Mathlib.Numerals.{add-one}
use mathlib.Core.Path.{◌≡◌, refl, sym, ap, ◌∙◌}
use mathlib.Core.Logic.{⊎_elim}
use mathlib.Core.Bool.{false}
use mathlib.Core.List.{List, [], ◌∷◌, ◌++◌, map, append_assoc}
use mathlib.Core.Option.{Option, none, some}
use lib.ListN.{length, set, get_or, take, drop, length-append, length-map, take-append-drop, get_or-append}
use lib.Seq.{take-suc, take_all, take_at, take-take, set_at, get_or_at, get_or-take, length-take-le}
use Rattle.lists.specs.Lists.{cat_maybes}
use Rattle.lists.proofs.Tests.{cond-true, cond-false}
use Rattle.lists.proofs.DropLaws.{drop_at as list_at, drop-end}
use Rattle.lists.proofs.TakeLaws.{take_short}
use Rattle.lists.proofs.PartLaws.{cat_maybes-few, cat_maybes-append}
use Rattle.lists.proofs.MapLaws.{map-append}
use Rattle.table.specs.declared.Lease.{Lease}
use Rattle.table.specs.Table.{no_lease}
use Rattle.image.specs.Image.{lease_size}
use Rattle.image.specs.Reading.{lease_in}
use Rattle.image_records.specs.Records.{Records}
use Rattle.image_records.proofs.RecordLaws.{lease-in-place}
use Rattle.figures.specs.declared.FigureRow.{FigureRow}
use Rattle.figures.specs.Figures.{empty_row, untold_row, of_lease?, found, row_for}
use Rattle.image_figures.specs.Sheets.{row_size, sheet_of}
use Rattle.image_figures.specs.Inner.{own?, placed}
use Rattle.image_figures.proofs.RowLaws.{sheet-length}
use Rattle.figures.proofs.FoundLaws.{option_cases, found-yes, found-no, row-own, row_new, all_found}

-- How many of the first k leases had a row, and the rows once all leases from k on have theirs.
abbrev early : List FigureRow → List Lease → ℕ → List FigureRow
early rs xs k = cat_maybes (map (found rs) (take k xs))

abbrev state : List FigureRow → List FigureRow → List Lease → ℕ → List FigureRow
state rows rs xs k = take k rows ++ (map (row_for rs) (drop k xs) ++ drop (length xs) rows)

module _ (rows rs : List FigureRow) (n : ℕ) (first : rs ≡ take n rows) (xs : List Lease) (room : length xs ≤ length rows) (kept : cat_maybes (map (found rs) xs) ≡ rs) where
  split : (k : ℕ) → rs ≡ early rs xs k ++ cat_maybes (map (found rs) (drop k xs))
  split k =
      sym kept
      ∙ ap (λ (ys : List Lease). cat_maybes (map (found rs) ys)) (sym (take-append-drop k xs))
      ∙ ap cat_maybes (map-append (found rs) (take k xs) (drop k xs))
      ∙ cat_maybes-append (map (found rs) (take k xs)) (map (found rs) (drop k xs))

  few : (k : ℕ) → length (early rs xs k) ≤ k
  few k = omega (arith, cat_maybes-few (map (found rs) (take k xs)), length-map (take k xs) (found rs), take_short k xs)

  within : (k : ℕ) → length (early rs xs k) ≤ length rs
  within k = omega (arith, ap length (split k), length-append (early rs xs k) (cat_maybes (map (found rs) (drop k xs))))

  -- A row before k is where it was.
  still : (k i : ℕ) → i < k → k ≤ length rows → i < length rs → get_or (state rows rs xs k) i empty_row ≡ get_or rs i empty_row
  still k i h b j =
      get_or-append (take k rows) (map (row_for rs) (drop k xs) ++ drop (length xs) rows) empty_row i (omega (arith, length-take-le k rows b))
      ∙ get_or-take k rows i empty_row h
      ∙ sym (ap (λ (l : List FigureRow). get_or l i empty_row) first ∙ get_or-take n rows i empty_row (omega (arith, ap length first, take_short n rows)))

  module _ (k : ℕ) (lt : k < length xs) (x : Lease) (is : x ≡ get_or xs k no_lease) where
    here : drop k xs ≡ x ∷ drop (k + 1) xs
    here = list_at xs k no_lease lt ∙ ap (λ (y : Lease). y ∷ drop (k + 1) xs) (sym is)

    one_more : early rs xs (k + 1) ≡ early rs xs k ++ cat_maybes (found rs x ∷ [])
    one_more =
        let e : take (k + 1) xs ≡ take k xs ++ (x ∷ []) =
        ap (λ (m : ℕ). take m xs) (add-one k) ∙ take-suc xs k no_lease lt ∙ ap (λ (y : Lease). take k xs ++ (y ∷ [])) (sym is) in
        ap (λ (ys : List Lease). cat_maybes (map (found rs) ys)) e
        ∙ ap cat_maybes (map-append (found rs) (take k xs) (x ∷ []))
        ∙ cat_maybes-append (map (found rs) (take k xs)) (found rs x ∷ [])

    stored : (v : FigureRow) → row_for rs x ≡ v → set (state rows rs xs (k + 1)) k v ≡ state rows rs xs k
    stored v e =
        let rest : List FigureRow = map (row_for rs) (drop (k + 1) xs) ++ drop (length xs) rows in
        let old : FigureRow = get_or rows k empty_row in
        let t : take (k + 1) rows ≡ take k rows ++ (old ∷ []) = ap (λ (m : ℕ). take m rows) (add-one k) ∙ take-suc rows k empty_row (omega arith) in
        ap (λ (l : List FigureRow). set (l ++ rest) k v) t
        ∙ ap (λ (l : List FigureRow). set l k v) (append_assoc (take k rows) (old ∷ []) rest)
        ∙ set_at (take k rows) old rest v k (length-take-le k rows (omega arith))
        ∙ ap (λ (w : FigureRow). take k rows ++ (w ∷ rest)) (sym e)
        ∙ sym (ap (λ (ys : List Lease). take k rows ++ (map (row_for rs) ys ++ drop (length xs) rows)) here)

    -- The lease had a row: it is the last of those that are left.
    module _ (r : FigureRow) (f : found rs x ≡ some r) where
      gone : length (early rs xs (k + 1)) ≡ suc (length (early rs xs k))
      gone =
          let e = one_more ∙ ap (λ (o : Option FigureRow). early rs xs k ++ cat_maybes (o ∷ [])) f in
          omega (arith, ap length e, length-append (early rs xs k) (r ∷ []))

      mine : get_or rs (length (early rs xs k)) empty_row ≡ r
      mine =
          let e = split k ∙ ap (λ (ys : List Lease). early rs xs k ++ cat_maybes (map (found rs) ys)) here
          ∙ ap (λ (o : Option FigureRow). early rs xs k ++ cat_maybes (o ∷ map (found rs) (drop (k + 1) xs))) f in
          ap (λ (l : List FigureRow). get_or l (length (early rs xs k)) empty_row) e
          ∙ get_or_at (early rs xs k) r (cat_maybes (map (found rs) (drop (k + 1) xs))) empty_row (length (early rs xs k)) refl

      moved : placed (state rows rs xs (k + 1)) (suc (length (early rs xs k))) k x ≡ (length (early rs xs k), state rows rs xs k)
      unfolding placed own?
      moved =
          let i : ℕ = length (early rs xs k) in
          let all : List FigureRow = state rows rs xs (k + 1) in
          let read : get_or all i empty_row ≡ r = still (k + 1) i (omega (arith, few k)) (omega arith) (omega (arith, gone, within (k + 1))) ∙ mine in
          let less : suc i - 1 ≡ i = omega arith in
          cond-true (of_lease? x (get_or all i empty_row)) (suc i - 1, set all k (get_or all (suc i - 1) empty_row)) (suc i, set all k (untold_row x))
          (ap (of_lease? x) read ∙ found-yes rs x r f)
          ∙ ap (λ (j : ℕ). (j, set all k (get_or all j empty_row))) less
          ∙ ap (λ (v : FigureRow). (i, set all k v)) read
          ∙ ap (λ (l : List FigureRow). (i, l)) (stored r (row-own rs x r f))

    -- It had none.
    module _ (f : found rs x ≡ none) where
      stays : early rs xs (k + 1) ≡ early rs xs k ++ []
      stays = one_more ∙ ap (λ (o : Option FigureRow). early rs xs k ++ cat_maybes (o ∷ [])) f

      not_own : (i : ℕ) → i ≤ k → i ≤ length rs → own? (state rows rs xs (k + 1)) i x ≡ false
      unfolding own?
      not_own zero h j = refl
      not_own (suc i) h j = ap (of_lease? x) (still (k + 1) i (omega arith) (omega arith) (omega arith)) ∙ found-no rs x f i (omega arith)

      made : placed (state rows rs xs (k + 1)) (length (early rs xs k)) k x ≡ (length (early rs xs k), state rows rs xs k)
      unfolding placed
      made =
          let i : ℕ = length (early rs xs k) in
          let all : List FigureRow = state rows rs xs (k + 1) in
          cond-false (own? all i x) (i - 1, set all k (get_or all (i - 1) empty_row)) (i, set all k (untold_row x)) (not_own i (few k) (within k))
          ∙ ap (λ (l : List FigureRow). (i, l)) (stored (untold_row x) (row_new rs x f))

    step : placed (state rows rs xs (k + 1)) (length (early rs xs (k + 1))) k x ≡ (length (early rs xs k), state rows rs xs k)
    step =
        ⊎_elim
        (λ (f : found rs x ≡ none).
        let e : length (early rs xs (k + 1)) ≡ length (early rs xs k) = omega (arith, ap length (stays f), length-append (early rs xs k) []) in
        ap (λ (i : ℕ). placed (state rows rs xs (k + 1)) i k x) e ∙ made f)
        (λ (s : (r : FigureRow) × (found rs x ≡ some r)).
        ap (λ (i : ℕ). placed (state rows rs xs (k + 1)) i k x) (gone s.0 s.1) ∙ moved s.0 s.1)
        (option_cases (found rs x))

  -- Where the places agree, the rows before k are those of the leases before k.
  agree : (k : ℕ) → k ≤ length xs → length (early rs xs k) ≡ k → state rows rs xs k ≡ map (row_for rs) xs ++ drop (length xs) rows
  agree k h e =
      let enough : k ≤ n = omega (arith, within k, ap length first, take_short n rows) in
      let low : take k rows ≡ map (row_for rs) (take k xs) =
      sym (take-take k n rows enough)
      ∙ ap (take k) (sym first ∙ split k)
      ∙ take_at (early rs xs k) (cat_maybes (map (found rs) (drop k xs))) k e
      ∙ sym (all_found rs (take k xs) (omega (arith, e, length-take-le k xs h))) in
      ap (λ (l : List FigureRow). l ++ (map (row_for rs) (drop k xs) ++ drop (length xs) rows)) low
      ∙ sym (append_assoc (map (row_for rs) (take k xs)) (map (row_for rs) (drop k xs)) (drop (length xs) rows))
      ∙ ap (λ (l : List FigureRow). l ++ drop (length xs) rows)
      (sym (map-append (row_for rs) (take k xs) (drop k xs)) ∙ ap (map (row_for rs)) (take-append-drop k xs))

-- THE SHEET

-- What has become of the sheet l once the leases from k on have their rows: `left` rows are to be placed.
pub Spreading : List ℕ → ℕ → List ℕ → ℕ → ℕ → List ℕ → ℕ → ℕ → Type 0
Spreading l n image from many sheet left k =
    (rows : List FigureRow) (xs : List Lease) → l ≡ sheet_of rows → Records image from xs → many ≡ length xs → cat_maybes (map (found (take n rows)) xs) ≡ take n rows
    → (left ≡ length (early (take n rows) xs k)) × (sheet ≡ sheet_of (state rows (take n rows) xs k))

module _ (l : List ℕ) (n : ℕ) (image : List ℕ) (from many : ℕ) (fits : n ≤ many) (room : row_size * many ≤ length l) where
  rows-room : (rows : List FigureRow) (xs : List Lease) → l ≡ sheet_of rows → many ≡ length xs → length xs ≤ length rows
  rows-room rows xs s e = omega (arith, sheet-length l rows s)

  pub spread-first : Spreading l n image from many l n many
  unfolding Spreading
  spread-first rows xs s r e kept =
      let m = rows-room rows xs s e in
      let all : take many xs ≡ xs = take_all many xs (omega arith) in
      let none_left : drop many xs ≡ [] = drop-end xs many (omega arith) in
      let back : rows ≡ state rows (take n rows) xs many =
      sym (take-append-drop (length xs) rows)
      ∙ ap (λ (k : ℕ). take k rows ++ drop (length xs) rows) (sym e)
      ∙ sym (ap (λ (ys : List Lease). take many rows ++ (map (row_for (take n rows)) ys ++ drop (length xs) rows)) none_left) in (
        sym (ap length (ap (λ (ys : List Lease). cat_maybes (map (found (take n rows)) ys)) all ∙ kept) ∙ length-take-le n rows (omega arith)),
        s ∙ ap sheet_of back,
      )

  -- One lease more.
  pub spread-more : (sheet sheet₁ : List ℕ) (left left₁ k : ℕ) → k < many → Spreading l n image from many sheet left (k + 1)
      → ((rows : List FigureRow) (x : Lease) → sheet ≡ sheet_of rows → x ≡ lease_in (drop (from + lease_size * k) image) → (left₁ ≡ (placed rows left k x).0) × (sheet₁ ≡ sheet_of (placed rows left k x).1))
      → Spreading l n image from many sheet₁ left₁ k
  unfolding Spreading
  spread-more sheet sheet₁ left left₁ k lt before put rows xs s r e kept =
      let b = before rows xs s r e kept in
      let x : Lease = lease_in (drop (from + lease_size * k) image) in
      let all : List FigureRow = state rows (take n rows) xs (k + 1) in
      let p = put all x b.1 refl in
      let j : k < length xs = omega arith in
      let q : placed all left k x ≡ (length (early (take n rows) xs k), state rows (take n rows) xs k) =
      ap (λ (i : ℕ). placed all i k x) b.0
      ∙ step rows (take n rows) n refl xs (rows-room rows xs s e) kept k j x (lease-in-place image from xs r k j) in
      (p.0 ∙ ap (λ (w : ℕ × List FigureRow). w.0) q, p.1 ∙ ap (λ (w : ℕ × List FigureRow). sheet_of w.1) q)

  pub spread-last : (sheet : List ℕ) (left k : ℕ) → k ≤ many → left ≡ k → Spreading l n image from many sheet left k → (rows : List FigureRow) (xs : List Lease)
      → l ≡ sheet_of rows → Records image from xs → many ≡ length xs → cat_maybes (map (found (take n rows)) xs) ≡ take n rows
      → sheet ≡ sheet_of (map (row_for (take n rows)) xs ++ drop many rows)
  unfolding Spreading
  spread-last sheet left k h same before rows xs s r e kept =
      let b = before rows xs s r e kept in
      let q = agree rows (take n rows) n refl xs (rows-room rows xs s e) kept k (omega arith) (sym b.0 ∙ same) in
      b.1 ∙ ap sheet_of (q ∙ ap (λ (m : ℕ). map (row_for (take n rows)) xs ++ drop m rows) (sym e))
