-- Laws of filling a sheet: rows of empty slots, and untold rows.
-- Assumes nothing.
use Prim.Native.Nat.{ℕ, zero, suc, ◌+◌, ◌-◌, ◌*◌, ◌≤◌, ◌<◌}
use native.Mathlib.Omega.{arith}
use mathlib.Core.Path.{◌≡◌, refl, sym, ap, ap₂, ◌∙◌}
use mathlib.Core.List.{List, ◌∷◌, ◌++◌, map, append-nil}
use lib.ListN.{length, get_or, take, drop, replicate, length-append, length-map, length-replicate, get_or-map}
use lib.Seq.{take_all}
use Rattle.lists.specs.Put.{put}
use Rattle.lists.proofs.DropLaws.{drop-end}
use Rattle.lists.proofs.ConcatMapLaws.{concat_map-append}
use Rattle.lists.proofs.MapLaws.{map-append}
use Rattle.lists.proofs.PutLaws.{put-nothing, put-append, put_front}
use Rattle.table.specs.declared.Lease.{Lease}
use Rattle.table.specs.Table.{lease_slots, no_lease, padded}
use Rattle.image.specs.Image.{lease_size}
use Rattle.image.specs.Reading.{lease_in}
use Rattle.image.proofs.WriteLaws.{more-put}
use Rattle.image_records.specs.Records.{Records}
use Rattle.image_records.proofs.PutForms.{put-over-last}
use Rattle.image_records.proofs.RecordLaws.{lease-in-place}
use Rattle.figures.specs.declared.FigureRow.{FigureRow}
use Rattle.figures.specs.Figures.{untold_row, empty_row}
use Rattle.image_figures.specs.Sheets.{row_size, figures_size, row_bytes, sheet_of}
use Rattle.image_figures.proofs.RowLaws.{length-row, length-rows}
use Rattle.image_figures.proofs.EmptyBytes.{empty_bytes, length-empty, empty-append}

-- EMPTY ROWS

module _ (l : List ℕ) (first : ℕ) where
  pub cleared-none : l ≡ put l (row_size * first) (empty_bytes (first - first))
  cleared-none =
      let z : first - first ≡ 0 = omega arith in
      sym (ap (λ (k : ℕ). put l (row_size * first) (empty_bytes k)) z ∙ put-nothing l (row_size * first))

  -- The rows up to i are cleared; m more from j on, which may stand among them.
  pub cleared_more : (l₁ l₂ : List ℕ) (i j m k : ℕ) → first ≤ j → j ≤ i → i ≤ k → k ≡ j + m → l₁ ≡ put l (row_size * first) (empty_bytes (i - first))
      → l₂ ≡ put l₁ (row_size * j) (empty_bytes m) → l₂ ≡ put l (row_size * first) (empty_bytes (k - first))
  cleared_more l₁ l₂ i j m k from among up last e₁ e₂ =
      let p : List ℕ = empty_bytes (j - first) in
      let q : List ℕ = empty_bytes (i - j) in
      let place : row_size * j ≡ row_size * first + length p = omega (arith, length-empty (j - first)) in
      let before : i - first ≡ j - first + (i - j) = omega arith in
      let after : j - first + m ≡ k - first = omega arith in
      e₂
      ∙ ap₂ (λ (s : List ℕ) (n : ℕ). put s n (empty_bytes m)) (e₁ ∙ ap (put l (row_size * first)) (ap empty_bytes before ∙ empty-append (j - first) (i - j))) place
      ∙ put-over-last p q (empty_bytes m) l (row_size * first) (omega (arith, length-empty (i - j), length-empty m))
      ∙ ap (put l (row_size * first)) (sym (empty-append (j - first) m) ∙ ap empty_bytes after)

-- UNTOLD ROWS

-- The first i leases have untold rows.
pub Filling : List ℕ → List ℕ → ℕ → ℕ → List ℕ → ℕ → Type 0
Filling l image from n sheet i = (xs : List Lease) → Records image from xs → n ≡ length xs → sheet ≡ put l 0 (sheet_of (take i (map untold_row xs)))

module _ (l image : List ℕ) (from n : ℕ) where
  pub filling-none : Filling l image from n l 0
  unfolding Filling
  filling-none xs r e = sym (put-nothing l 0)

  pub filling-more : (l₁ l₂ : List ℕ) (i : ℕ) (x : Lease) (y : FigureRow) → i < n → Filling l image from n l₁ i → x ≡ lease_in (drop (from + lease_size * i) image) → y ≡ untold_row x
      → l₂ ≡ put l₁ (row_size * i) (row_bytes y) → Filling l image from n l₂ (i + 1)
  unfolding Filling
  filling-more l₁ l₂ i x y lt before read y-is e₂ xs r e =
      let place : row_size * i ≡ 0 + row_size * i = omega arith in
      let v-is : y ≡ get_or (map untold_row xs) i empty_row =
      y-is ∙ ap untold_row (read ∙ lease-in-place image from xs r i (omega arith)) ∙ sym (get_or-map untold_row xs i no_lease) in
      more-put row_bytes row_size length-row l l₁ l₂ 0 i (map untold_row xs) empty_row (omega (arith, length-map xs untold_row)) (before xs r e)
      (e₂ ∙ ap₂ (λ (k : ℕ) (v : FigureRow). put l₁ k (row_bytes v)) place v-is)

  pub filling-all : (l₁ : List ℕ) (i : ℕ) → n ≤ i → Filling l image from n l₁ i → (xs : List Lease) → Records image from xs → n ≡ length xs → l₁ ≡ put l 0 (sheet_of (map untold_row xs))
  unfolding Filling
  filling-all l₁ i h before xs r e =
      before xs r e ∙ ap (λ (s : List FigureRow). put l 0 (sheet_of s)) (take_all i (map untold_row xs) (omega (arith, length-map xs untold_row)))

map-none : (m : ℕ) → map untold_row (replicate m no_lease) ≡ replicate m empty_row
map-none zero = refl
map-none (suc m) = ap (λ (s : List FigureRow). empty_row ∷ s) (map-none m)

-- A whole sheet, over a size that is no numeral here.
whole : (slots : ℕ) (l l₁ l₂ : List ℕ) (xs : List Lease) → length xs ≤ slots → length l ≡ row_size * slots → l₁ ≡ put l 0 (sheet_of (map untold_row xs))
    → l₂ ≡ put l₁ (row_size * length xs) (sheet_of (replicate (slots - length xs) empty_row)) → l₂ ≡ sheet_of (map untold_row (xs ++ replicate (slots - length xs) no_lease))
whole slots l l₁ l₂ xs h size e₁ e₂ =
    let a : List FigureRow = map untold_row xs in
    let b : List FigureRow = replicate (slots - length xs) empty_row in
    let sa = length-rows a in
    let sb = length-rows b in
    let place : row_size * length xs ≡ 0 + length (sheet_of a) = omega (arith, sa, length-map xs untold_row) in
    let total : List ℕ = sheet_of a ++ sheet_of b in
    let st : length total ≡ length l = omega (arith, length-append (sheet_of a) (sheet_of b), sa, sb, length-map xs untold_row, length-replicate (slots - length xs) empty_row) in
    e₂
    ∙ ap₂ (λ (m : List ℕ) (k : ℕ). put m k (sheet_of b)) e₁ place
    ∙ put-append (sheet_of a) l 0 (sheet_of b)
    ∙ put_front total l (omega (arith, st))
    ∙ ap (λ (d : List ℕ). total ++ d) (drop-end l (length total) (omega (arith, st)))
    ∙ append-nil total
    ∙ sym (concat_map-append row_bytes a b)
    ∙ ap (λ (s : List FigureRow). sheet_of (a ++ s)) (sym (map-none (slots - length xs)))
    ∙ ap sheet_of (sym (map-append untold_row xs (replicate (slots - length xs) no_lease)))

pub filled : (l l₁ l₂ : List ℕ) (n : ℕ) (xs : List Lease) → n ≤ lease_slots → length l ≡ figures_size → n ≡ length xs → l₁ ≡ put l 0 (sheet_of (map untold_row xs))
    → l₂ ≡ put l₁ (row_size * n) (sheet_of (replicate (lease_slots - n) empty_row)) → l₂ ≡ sheet_of (map untold_row (padded xs))
filled l l₁ l₂ n xs h size e e₁ e₂ =
    whole lease_slots l l₁ l₂ xs (omega arith) size e₁ (e₂ ∙ ap (λ (k : ℕ). put l₁ (row_size * k) (sheet_of (replicate (lease_slots - k) empty_row))) e)
