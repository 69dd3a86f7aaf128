-- The lines of the figures sheet, from the pieces that are written.
-- Assumes nothing.
use Prim.Native.Nat.{ℕ, ◌+◌, ◌*◌, ◌/◌, ◌%◌, ◌≤◌, ◌<◌}
use native.Mathlib.Omega.{arith}
use native.Mathlib.Numerals.{add-one}
use mathlib.Core.Path.{◌≡◌, refl, sym, ap, ◌∙◌}
use mathlib.Core.Bool.{Bool, true, false, ◌&&◌}
use mathlib.Core.List.{List, [], ◌∷◌, ◌++◌, append-nil}
use lib.ListN.{length, take, drop, get_or}
use lib.Seq.{take-suc, take_all}
use lib.Dec.{eqb}
use borrow.Author.Tests.{eq-eqb, ne_eqb}
use Rattle.lists.specs.Lists.{concat_map}
use Rattle.lists.proofs.Tests.{cond-true, cond-false}
use Rattle.lists.proofs.ConcatMapLaws.{concat_map-append}
use Rattle.lists.proofs.PutLaws.{put-nothing}
use Rattle.text.specs.Ascii.{ascii}
use Rattle.text.specs.Wrote.{Wrote}
use Rattle.table.specs.Table.{lease_slots, no_lease}
use Rattle.figures.specs.declared.FigureRow.{FigureRow}
use Rattle.figures.specs.Figures.{untold, empty_row, of_lease?}
use Rattle.image_figures.specs.Sheets.{row_size, figures_size, row_in, rows_in, sheet_rows}
use Rattle.image_figures.proofs.SheetLaws.{length-rows-in, rows-in-at, sheet-rows}
use Rattle.console_lines.specs.Lines.{decimal, ok_line}
use Rattle.console_lines.specs.FigureLines.{figure_text, prefix_text, row_line, row_text, figures_text}
use Rattle.console_lines.proofs.TextLaws.{filled, then-wrote, wrote_as}

-- ONE ROW

pub figure-untold : (n : ℕ) → n ≡ untold → ascii "-" ≡ figure_text n
figure-untold n e = sym (cond-true (eqb n untold) (ascii "-") (decimal n) (eq-eqb n untold e))

pub figure-told : (n : ℕ) → (n ≡ untold → ⊥) → filled (ascii "%") (n ∷ []) ≡ figure_text n
figure-told n k = append-nil (decimal n) ∙ sym (cond-false (eqb n untold) (ascii "-") (decimal n) (ne_eqb n untold k))

pub prefix-filled : (n len : ℕ) → filled (ascii "%.%.%.%/%") (n / 16777216 ∷ n / 65536 % 256 ∷ n / 256 % 256 ∷ n % 256 ∷ len ∷ []) ≡ prefix_text n len
prefix-filled n len =
    ap
    (λ (l : List ℕ). decimal (n / 16777216) ++ (ascii "." ++ (decimal (n / 65536 % 256) ++ (ascii "." ++ (decimal (n / 256 % 256) ++ (ascii "." ++ (decimal (n % 256) ++ (ascii "/" ++ l))))))))
    (append-nil (decimal len))

module _ (r : FigureRow) where
  pub empty-slot : r.network ≡ 0 → eqb r.length 0 ≡ of_lease? no_lease r
  unfolding of_lease?
  empty-slot e = rw (eq-eqb r.network 0 e) (and-true (eqb r.length 0))
    where
      and-true : (b : Bool) → b ≡ (b && true)
      and-true true = refl
      and-true false = refl

  pub row-hidden : (old : List ℕ) (at : ℕ) → of_lease? no_lease r ≡ true → Wrote old at (row_text r) old at
  unfolding row_text
  row-hidden old at e = rw e (record { bytes = sym (put-nothing old at); place = omega arith })

  pub row-shown : of_lease? no_lease r ≡ false → row_line r ≡ row_text r
  unfolding row_text
  row-shown e = sym (cond-false (of_lease? no_lease r) [] (row_line r) e)

-- ALL ROWS, over a number of slots that is no numeral here.

pub rows_none : (slots : ℕ) (sheet old : List ℕ) (at : ℕ) → Wrote old at (concat_map row_text (take 0 (rows_in slots sheet))) old at
rows_none slots sheet old at = record { bytes = sym (put-nothing old at); place = omega arith }

pub rows_more : (slots : ℕ) (sheet : List ℕ) (i : ℕ) (old mid new : List ℕ) (at p r : ℕ) → i < slots → Wrote old at (concat_map row_text (take i (rows_in slots sheet))) mid p
    → Wrote mid p (row_text (row_in (drop (row_size * i) sheet))) new r → Wrote old at (concat_map row_text (take (i + 1) (rows_in slots sheet))) new r
rows_more slots sheet i old mid new at p r lt a b = wrote_as _ _ _ _ _ _ one_more (then-wrote old mid new _ _ at p r a b)
  where
    rows : List FigureRow
    rows = rows_in slots sheet

    one_more : concat_map row_text (take i rows) ++ row_text (row_in (drop (row_size * i) sheet)) ≡ concat_map row_text (take (i + 1) rows)
    one_more =
        ap (λ (x : FigureRow). concat_map row_text (take i rows) ++ row_text x) (sym (rows-in-at slots sheet i lt))
        ∙ ap (λ (l : List ℕ). concat_map row_text (take i rows) ++ l) (sym (append-nil (row_text (get_or rows i empty_row))))
        ∙ sym (concat_map-append row_text (take i rows) (get_or rows i empty_row ∷ []))
        ∙ ap (concat_map row_text) (sym (take-suc rows i empty_row (omega (arith, length-rows-in slots sheet))))
        ∙ ap (λ (k : ℕ). concat_map row_text (take k rows)) (sym (add-one i))

pub rows_all : (slots : ℕ) (sheet : List ℕ) (i : ℕ) → slots ≤ i → take i (rows_in slots sheet) ≡ rows_in slots sheet
rows_all slots sheet i le = take_all i (rows_in slots sheet) (omega (arith, length-rows-in slots sheet))

pub sheet-written : (sheet : List ℕ) (i : ℕ) → length sheet ≡ figures_size → lease_slots ≤ i → concat_map row_text (take i (rows_in lease_slots sheet)) ++ ok_line ≡ figures_text (sheet_rows sheet)
unfolding figures_text
sheet-written sheet i size le = ap (λ (rows : List FigureRow). concat_map row_text rows ++ ok_line) (rows_all lease_slots sheet i le ∙ sym (sheet-rows sheet size))
