-- The rows of a sheet and the sheet of rows: each is read from the other.
-- Assumes nothing.
use Prim.Native.Nat.{ℕ, zero, suc, ◌+◌, ◌-◌, ◌*◌, ◌≤◌, ◌<◌}
use native.Mathlib.Omega.{arith}
use mathlib.Core.Path.{◌≡◌, refl, sym, ap, ap₂, ◌∙◌}
use mathlib.Core.List.{List, [], ◌∷◌, ◌++◌, append_assoc, append-nil}
use lib.ListN.{length, get_or, drop, length-drop}
use lib.Seq.{drop-drop, drop_at}
use lib.Dec.{eqb}
use borrow.Author.Tests.{eq-eqb, ne_eqb}
use Rattle.lists.proofs.Tests.{cond-true, cond-false}
use Rattle.lists.proofs.DropLaws.{drop-end}
use Rattle.table.specs.Table.{lease_slots}
use Rattle.image.proofs.FieldLaws.{Bytes, bytes_drop, le16-number, le32-number, spelled, front-spelled}
use Rattle.figures.specs.declared.FigureRow.{FigureRow}
use Rattle.figures.specs.Figures.{empty_row}
use Rattle.image_figures.specs.Sheets.{row_size, figures_size, row_bytes, sheet_of, row_in, rows_in, sheet_rows}
use Rattle.image_figures.proofs.RowLaws.{length-row, length-rows, row_read}

-- SO MANY ROWS, over a number that is no numeral here.

pub length-rows-in : (n : ℕ) (s : List ℕ) → length (rows_in n s) ≡ n
unfolding rows_in
length-rows-in zero s = refl
length-rows-in (suc n) s = ap suc (length-rows-in n (drop row_size s))

pub rows-in-at : (n : ℕ) (s : List ℕ) (i : ℕ) → i < n → get_or (rows_in n s) i empty_row ≡ row_in (drop (row_size * i) s)
unfolding rows_in
rows-in-at zero s i h = absurd (omega arith)
rows-in-at (suc n) s zero h = refl
rows-in-at (suc n) s (suc i) h =
    let e : row_size + row_size * i ≡ row_size * suc i = omega arith in
    rows-in-at n (drop row_size s) i (omega arith) ∙ ap row_in (drop-drop (row_size * i) row_size s ∙ ap (λ (k : ℕ). drop k s) e)

pub rows-in-two : (m n : ℕ) (s : List ℕ) → rows_in (m + n) s ≡ rows_in m s ++ rows_in n (drop (row_size * m) s)
unfolding rows_in
rows-in-two zero n s = let e : zero + n ≡ n = omega arith in ap (λ (k : ℕ). rows_in k s) e
rows-in-two (suc m) n s =
    let e : suc m + n ≡ suc (m + n) = omega arith in
    let next : row_size + row_size * m ≡ row_size * suc m = omega arith in
    ap (λ (k : ℕ). rows_in k s) e
    ∙ ap (λ (rows : List FigureRow). row_in s ∷ rows)
    (rows-in-two m n (drop row_size s) ∙ ap (λ (t : List ℕ). rows_in m (drop row_size s) ++ rows_in n t) (drop-drop (row_size * m) row_size s ∙ ap (λ (k : ℕ). drop k s) next))

pub rows-in-from : (n : ℕ) (s : List ℕ) (i : ℕ) → i ≤ n → drop i (rows_in n s) ≡ rows_in (n - i) (drop (row_size * i) s)
rows-in-from n s i h =
    let e : n ≡ i + (n - i) = omega arith in
    ap (λ (k : ℕ). drop i (rows_in k s)) e
    ∙ ap (drop i) (rows-in-two i (n - i) s)
    ∙ drop_at (rows_in i s) (rows_in (n - i) (drop (row_size * i) s)) i (length-rows-in i s)

-- Rows at the front of some bytes are read back,
pub rows-front : (rows : List FigureRow) (s q : List ℕ) → s ≡ sheet_of rows ++ q → rows_in (length rows) s ≡ rows
unfolding rows_in
rows-front [] s q e = refl
rows-front (r ∷ rows) s q e =
    let rest : List ℕ = sheet_of rows ++ q in
    let here : s ≡ row_bytes r ++ rest = e ∙ append_assoc (row_bytes r) (sheet_of rows) q in
    ap₂ (λ (y : FigureRow) (ys : List FigureRow). y ∷ ys) (ap row_in here ∙ row_read r rest)
    (rows-front rows (drop row_size s) q (ap (drop row_size) here ∙ drop_at (row_bytes r) rest row_size (length-row r)))

one-row : (s : List ℕ) → Bytes s → row_size ≤ length s → s ≡ row_bytes (row_in s) ++ drop row_size s
unfolding row_bytes
one-row s b h =
    let same : row_bytes (row_in s) ≡ spelled 0 row_size s = rw (le32-number s b 0, le16-number s b 5, le16-number s b 7, le16-number s b 9) in
    front-spelled row_size s h ∙ ap (λ (l : List ℕ). l ++ drop row_size s) (sym same)

-- and bytes begin with those of their rows.
pub bytes-front : (n : ℕ) (s : List ℕ) → Bytes s → row_size * n ≤ length s → s ≡ sheet_of (rows_in n s) ++ drop (row_size * n) s
unfolding rows_in
bytes-front zero s b h = refl
bytes-front (suc n) s b h =
    let next : row_size + row_size * n ≡ row_size * suc n = omega arith in
    let rows : List ℕ = sheet_of (rows_in n (drop row_size s)) in
    one-row s b (omega arith)
    ∙ ap (λ (l : List ℕ). row_bytes (row_in s) ++ l)
    (bytes-front n (drop row_size s) (bytes_drop row_size s b) (omega (arith, length-drop row_size s))
    ∙ ap (λ (l : List ℕ). rows ++ l) (drop-drop (row_size * n) row_size s ∙ ap (λ (k : ℕ). drop k s) next))
    ∙ sym (append_assoc (row_bytes (row_in s)) rows (drop (row_size * suc n) s))

-- WHOLE SHEETS

pub sheet-rows : (s : List ℕ) → length s ≡ figures_size → sheet_rows s ≡ rows_in lease_slots s
unfolding sheet_rows
sheet-rows s e = cond-true (eqb (length s) figures_size) (rows_in lease_slots s) [] (eq-eqb (length s) figures_size e)

pub sheet-none : (s : List ℕ) → (length s ≡ figures_size → ⊥) → sheet_rows s ≡ []
unfolding sheet_rows
sheet-none s h = cond-false (eqb (length s) figures_size) (rows_in lease_slots s) [] (ne_eqb (length s) figures_size h)

-- A sheet's rows read back,
pub rows-read-back : (rows : List FigureRow) → length rows ≡ lease_slots → sheet_rows (sheet_of rows) ≡ rows
rows-read-back rows e =
    let size : length (sheet_of rows) ≡ figures_size = length-rows rows ∙ ap (λ (n : ℕ). row_size * n) e in
    sheet-rows (sheet_of rows) size ∙ ap (λ (n : ℕ). rows_in n (sheet_of rows)) (sym e) ∙ rows-front rows (sheet_of rows) [] (sym (append-nil (sheet_of rows)))

-- and bytes of a sheet's size are the sheet of their rows.
pub bytes-read-back : (s : List ℕ) → Bytes s → length s ≡ figures_size → s ≡ sheet_of (sheet_rows s)
bytes-read-back s b e =
    bytes-front lease_slots s b (omega arith)
    ∙ ap (λ (l : List ℕ). sheet_of (rows_in lease_slots s) ++ l) (drop-end s figures_size (omega arith))
    ∙ append-nil (sheet_of (rows_in lease_slots s))
    ∙ ap sheet_of (sym (sheet-rows s e))
