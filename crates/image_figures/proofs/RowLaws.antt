-- Laws of the rows of a sheet: a row reads back, its fields stand one after another, and one row of many is read and edited.
-- Assumes nothing.
use Prim.Native.Nat.{ℕ, zero, suc, ◌+◌, ◌*◌, ◌/◌, ◌%◌, ◌≤◌, ◌<◌}
use native.Mathlib.Omega.{arith}
use mathlib.Core.Path.{◌≡◌, refl, sym, ap, ap₂, ◌∙◌}
use mathlib.Core.Bool.{Bool, true, false, ◌&&◌}
use mathlib.Core.List.{List, [], ◌∷◌, ◌++◌}
use lib.ListN.{length, set, get_or, take, drop, length-set, length-drop, take-append-drop}
use lib.Seq.{drop-drop, drop_at, take_at, length-take-le}
use lib.Dec.{eqb}
use borrow.Author.Tests.{eq-eqb}
use Rattle.lists.specs.Put.{put}
use Rattle.lists.proofs.ConcatMapLaws.{concat_map-append}
use Rattle.lists.proofs.PutLaws.{put-more, set_more, put-append}
use Rattle.lists.proofs.DropLaws.{drop_at as list_at}
use Rattle.table.specs.declared.Lease.{Lease}
use Rattle.image.specs.Fields.{number16, number32}
use Rattle.image.specs.Image.{le16, le32}
use Rattle.image.proofs.FieldLaws.{spell32, number-from}
use Rattle.image.proofs.ImageLaws.{length-concat_map}
use Rattle.image_records.proofs.PutForms.{put-behind, put_front, put-over-last}
use Rattle.figures.specs.declared.FigureRow.{FigureRow}
use Rattle.figures.specs.Figures.{untold, untold_row, empty_row, of_lease?}
use Rattle.figures.proofs.FoundLaws.{lease-other}
use Rattle.image_figures.specs.Sheets.{row_size, row_bytes, sheet_of, row_in}

pub length-row : (r : FigureRow) → length (row_bytes r) ≡ row_size
unfolding row_bytes le16 le32
length-row r = refl

spell16 : (n : ℕ) → n % 256 + 256 * (n / 256) ≡ n
spell16 n = omega arith

abbrev pub row_of : ℕ → ℕ → ℕ → ℕ → ℕ → FigureRow
row_of network len high busy bad = record { network = network; length = len; high_water = record { 0 = high }; in_use = record { 0 = busy }; unusable = record { 0 = bad } }

pub row_read : (r : FigureRow) (q : List ℕ) → row_in (row_bytes r ++ q) ≡ r
unfolding row_bytes le16 le32 number16 number32
row_read r q =
    let s : List ℕ = row_bytes r ++ q in
    ap₂ (λ (n h : ℕ). row_of n r.length h (number16 s 7) (number16 s 9)) (spell32 r.network) (spell16 r.high_water.0)
    ∙ ap₂ (λ (u b : ℕ). row_of r.network r.length r.high_water.0 u b) (spell16 r.in_use.0) (spell16 r.unusable.0)

pub row_put : (r : FigureRow) (at : ℕ) (l l₁ l₂ l₃ l₄ : List ℕ) → l₁ ≡ put l at (le32 r.network) → l₂ ≡ put (set l₁ (at + 4) r.length) (at + 5) (le16 r.high_water.0)
    → l₃ ≡ put l₂ (at + 7) (le16 r.in_use.0) → l₄ ≡ put l₃ (at + 9) (le16 r.unusable.0) → l₄ ≡ put l at (row_bytes r)
unfolding row_bytes le16 le32
row_put r at l l₁ l₂ l₃ l₄ e₁ e₂ e₃ e₄ =
    let m : List ℕ = set l₁ (at + 4) r.length in
    let b₁ : List ℕ = le32 r.network in
    let b₂ : List ℕ = b₁ ++ (r.length ∷ []) in
    let b₃ : List ℕ = b₂ ++ le16 r.high_water.0 in
    let b₄ : List ℕ = b₃ ++ le16 r.in_use.0 in
    let f₁ : m ≡ put l at b₂ = set_more l l₁ m at b₁ (at + 4) r.length e₁ refl refl in
    let f₂ : l₂ ≡ put l at b₃ = put-more l m l₂ at b₂ (at + 5) (le16 r.high_water.0) f₁ refl e₂ in
    let f₃ : l₃ ≡ put l at b₄ = put-more l l₂ l₃ at b₃ (at + 7) (le16 r.in_use.0) f₂ refl e₃ in
    put-more l l₃ l₄ at b₄ (at + 9) (le16 r.unusable.0) f₃ refl e₄

-- An untold row in three words: the last byte of the second is the first of the third.
untold-word : (n : ℕ) → n < 256 → le32 (4294967040 + n) ≡ n ∷ 255 ∷ 255 ∷ 255 ∷ []
unfolding le32
untold-word n h =
    let e₁ : (4294967040 + n) % 256 ≡ n = omega arith in
    let q₂ : (4294967040 + n) / 256 ≡ 16777215 = omega arith in
    let q₃ : (4294967040 + n) / 65536 ≡ 65535 = omega arith in
    let e₂ : (4294967040 + n) / 256 % 256 ≡ 255 = ap (λ (q : ℕ). q % 256) q₂ in
    let e₃ : (4294967040 + n) / 65536 % 256 ≡ 255 = ap (λ (q : ℕ). q % 256) q₃ in
    let e₄ : (4294967040 + n) / 16777216 ≡ 255 = omega arith in
    ap₂ (λ (a b : ℕ). a ∷ b ∷ (4294967040 + n) / 65536 % 256 ∷ (4294967040 + n) / 16777216 ∷ []) e₁ e₂ ∙ ap₂ (λ (a b : ℕ). n ∷ 255 ∷ a ∷ b ∷ []) e₃ e₄

untold-is : (network len at : ℕ) (l l₁ l₂ l₃ : List ℕ) → len < 256 → l₁ ≡ put l at (le32 network) → l₂ ≡ put l₁ (at + 4) (le32 (4294967040 + len)) → l₃ ≡ put l₂ (at + 7) (le32 4294967295)
    → l₃ ≡ put l at (row_bytes (row_of network len untold untold untold))
unfolding row_bytes le16 le32
untold-is network len at l l₁ l₂ l₃ short e₁ e₂ e₃ =
    let front : List ℕ = le32 network ++ (len ∷ 255 ∷ 255 ∷ []) in
    let f₂ : l₂ ≡ put l at (front ++ (255 ∷ [])) =
    put-more l l₁ l₂ at (le32 network) (at + 4) (len ∷ 255 ∷ 255 ∷ 255 ∷ []) e₁ refl (e₂ ∙ ap (put l₁ (at + 4)) (untold-word len short)) in
    e₃ ∙ ap (λ (m : List ℕ). put m (at + 7) (le32 4294967295)) f₂ ∙ put-over-last front (255 ∷ []) (255 ∷ 255 ∷ 255 ∷ 255 ∷ []) l at (omega arith)

pub untold-put : (x : Lease) (network len at : ℕ) (l l₁ l₂ l₃ : List ℕ) → len < 256 → x.network ≡ network → x.length ≡ len → l₁ ≡ put l at (le32 network)
    → l₂ ≡ put l₁ (at + 4) (le32 (4294967040 + len)) → l₃ ≡ put l₂ (at + 7) (le32 4294967295) → l₃ ≡ put l at (row_bytes (untold_row x))
untold-put x network len at l l₁ l₂ l₃ short en el e₁ e₂ e₃ =
    untold-is network len at l l₁ l₂ l₃ short e₁ e₂ e₃ ∙ sym (ap₂ (λ (n m : ℕ). put l at (row_bytes (row_of n m untold untold untold))) en el)

-- ONE FIELD OF A ROW

pub network-here : (s : List ℕ) (at : ℕ) → number32 s at ≡ (row_in (drop at s)).network
network-here s at = let here : at ≡ at + 0 = omega arith in ap (number32 s) here ∙ number-from s at 0

pub row-differs : (x : Lease) (r : FigureRow) → (r.network ≡ x.network → ⊥) → false ≡ of_lease? x r
row-differs x r h = sym (lease-other x r h)

pub row-agrees : (x : Lease) (r : FigureRow) (b len : ℕ) → r.network ≡ x.network → b ≡ r.length → len ≡ x.length → eqb b len ≡ of_lease? x r
unfolding of_lease?
row-agrees x r b len n e l = ap₂ eqb e l ∙ sym (ap (λ (t : Bool). t && (eqb r.length x.length && true)) (eq-eqb r.network x.network n) ∙ and-true (eqb r.length x.length))
  where
    and-true : (t : Bool) → (t && true) ≡ t
    and-true true = refl
    and-true false = refl

-- ROWS IN PLACE

pub length-rows : (rows : List FigureRow) → length (sheet_of rows) ≡ row_size * length rows
length-rows rows = length-concat_map row_bytes row_size length-row rows

pub rows_drop : (rows : List FigureRow) (i : ℕ) → i ≤ length rows → drop (row_size * i) (sheet_of rows) ≡ sheet_of (drop i rows)
rows_drop rows zero h = refl
rows_drop [] (suc i) h = absurd (omega arith)
rows_drop (r ∷ rows) (suc i) h =
    let rest : List ℕ = sheet_of rows in
    let e : row_size * suc i ≡ row_size + row_size * i = omega arith in
    ap (λ (k : ℕ). drop k (row_bytes r ++ rest)) e
    ∙ sym (drop-drop (row_size * i) row_size (row_bytes r ++ rest))
    ∙ ap (drop (row_size * i)) (drop_at (row_bytes r) rest row_size (length-row r))
    ∙ rows_drop rows i (omega arith)

rows_take : (rows : List FigureRow) (m : ℕ) → m ≤ length rows → take (row_size * m) (sheet_of rows) ≡ sheet_of (take m rows)
rows_take rows m h =
    let parts : sheet_of rows ≡ sheet_of (take m rows) ++ sheet_of (drop m rows) =
    ap sheet_of (sym (take-append-drop m rows)) ∙ concat_map-append row_bytes (take m rows) (drop m rows) in
    ap (take (row_size * m)) parts
    ∙ take_at (sheet_of (take m rows)) (sheet_of (drop m rows)) (row_size * m) (length-rows (take m rows) ∙ ap (λ (k : ℕ). row_size * k) (length-take-le m rows h))

rows-edit : (rows : List FigureRow) (i : ℕ) (y : FigureRow) → i < length rows → put (sheet_of rows) (row_size * i) (row_bytes y) ≡ sheet_of (set rows i y)
rows-edit [] i y h = absurd (omega arith)
rows-edit (r ∷ rows) zero y h = put_front (row_bytes y) (row_bytes r) (sheet_of rows) (length-row r ∙ sym (length-row y))
rows-edit (r ∷ rows) (suc i) y h =
    let rest : List ℕ = sheet_of rows in
    let e : row_size * suc i ≡ length (row_bytes r) + row_size * i = omega (arith, length-row r) in
    ap (λ (k : ℕ). put (row_bytes r ++ rest) k (row_bytes y)) e
    ∙ put-behind (row_bytes y) (row_bytes r) rest (row_size * i)
    ∙ ap (λ (l : List ℕ). row_bytes r ++ l) (rows-edit rows i y (omega arith))

rows-put : (zs rows : List FigureRow) (i : ℕ) → i + length zs ≤ length rows → put (sheet_of rows) (row_size * i) (sheet_of zs) ≡ sheet_of (put rows i zs)
unfolding put
rows-put [] rows i h = refl
rows-put (z ∷ zs) rows i h =
    let place : row_size * i + length (row_bytes z) ≡ row_size * (i + 1) = omega (arith, length-row z) in
    sym (put-append (row_bytes z) (sheet_of rows) (row_size * i) (sheet_of zs))
    ∙ ap₂ (λ (l : List ℕ) (k : ℕ). put l k (sheet_of zs)) (rows-edit rows i z (omega arith)) place
    ∙ rows-put zs (set rows i z) (i + 1) (omega (arith, length-set rows i z))

module _ (l : List ℕ) (rows : List FigureRow) (s : l ≡ sheet_of rows) where
  pub sheet-length : length l ≡ row_size * length rows
  sheet-length = ap length s ∙ length-rows rows

  pub row-in-place : (i : ℕ) → i < length rows → row_in (drop (row_size * i) l) ≡ get_or rows i empty_row
  row-in-place i h =
      ap (λ (b : List ℕ). row_in (drop (row_size * i) b)) s
      ∙ ap row_in (rows_drop rows i (omega arith) ∙ ap sheet_of (list_at rows i empty_row h))
      ∙ row_read (get_or rows i empty_row) (sheet_of (drop (i + 1) rows))

  pub bytes-in-place : (i : ℕ) → i < length rows → take row_size (drop (row_size * i) l) ≡ row_bytes (get_or rows i empty_row)
  bytes-in-place i h =
      ap (λ (b : List ℕ). take row_size (drop (row_size * i) b)) s
      ∙ ap (take row_size) (rows_drop rows i (omega arith) ∙ ap sheet_of (list_at rows i empty_row h))
      ∙ take_at (row_bytes (get_or rows i empty_row)) (sheet_of (drop (i + 1) rows)) row_size (length-row (get_or rows i empty_row))

  -- Some rows from a place on.
  pub part-in-place : (i m : ℕ) → i + m ≤ length rows → take (row_size * m) (drop (row_size * i) l) ≡ sheet_of (take m (drop i rows))
  part-in-place i m h =
      ap (λ (b : List ℕ). take (row_size * m) (drop (row_size * i) b)) s
      ∙ ap (take (row_size * m)) (rows_drop rows i (omega arith))
      ∙ rows_take (drop i rows) m (omega (arith, length-drop i rows))

  -- A row put at a place.
  pub row-edited : (l₁ : List ℕ) (i : ℕ) (y : FigureRow) → i < length rows → l₁ ≡ put l (row_size * i) (row_bytes y) → l₁ ≡ sheet_of (set rows i y)
  row-edited l₁ i y h e = e ∙ ap (λ (b : List ℕ). put b (row_size * i) (row_bytes y)) s ∙ rows-edit rows i y h

  -- Rows put from a place on.
  pub rows-edited : (l₁ : List ℕ) (i : ℕ) (zs : List FigureRow) → i + length zs ≤ length rows → l₁ ≡ put l (row_size * i) (sheet_of zs) → l₁ ≡ sheet_of (put rows i zs)
  rows-edited l₁ i zs h e = e ∙ ap (λ (b : List ℕ). put b (row_size * i) (sheet_of zs)) s ∙ rows-put zs rows i h
