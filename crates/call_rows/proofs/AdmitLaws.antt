-- Laws of the admission: what each of its steps says of the rows.
-- Assumes nothing.
use Prim.Native.Nat.{ℕ, ◌≤◌}
use mathlib.Core.Path.{◌≡◌, refl, sym, ap, subst, ◌∙◌}
use mathlib.Core.Bool.{Bool, true, false, not, cond, ◌||◌}
use mathlib.Core.List.{List, [], ◌∷◌, ◌++◌}
use mathlib.Core.Option.{some}
use lib.Dec.{ltb, eqb}
use Rattle.std.specs.Prelude.{Some, None}
use Rattle.lists.proofs.Tests.{cond-true, cond-false, not-of, not-to}
use Rattle.table.specs.Table.{latest, sound}
use Rattle.figures.specs.Figures.{matches?}
use Rattle.ledger.specs.Sizes.{Bytes}
use Rattle.ledger.specs.Ledger.{Row, first_of, table_rows, state_rows, time_rows}
use Rattle.ledger.specs.FiguresKept.{Matched}
use Rattle.image_check.specs.declared.ImageSummary.{ImageSummary}
use Rattle.call_spec.specs.ImageCalls.{Lent, table_in, state_in}
use Rattle.call_spec.specs.Books.{Book, lent_in}
use Rattle.call_spec.proofs.BookLaws.{same-buffers}
use Rattle.call_spec.proofs.TableLaws.{held-size, held-sheet}
use Rattle.call_rows.specs.Admission.{admission_rows, SheetIn, Admitted}
use Rattle.call_rows.specs.InnerSummary.{SummaryIn, Measured, SheetPasses}
use Rattle.call_rows.proofs.SummaryLaws.{passes-is, admits, measured, last-is}

module _ (sheet short : Bool) (h : Lent) (now client : ℕ) where
  abbrev rows : List Row
  rows = admission_rows sheet short h now client

  abbrev later : List Row
  later = (2, eqb client 0) ∷ time_rows (state_in h) now

  pub row-1 : short ≡ true → first_of rows ≡ some 1
  row-1 e = cond-true short (some 1) _ e

  module _ (long : short ≡ false) where
    abbrev ok : Bool
    ok = sound (table_in h)

    pub row-5 : ok ≡ false → first_of rows ≡ some 5
    row-5 e = cond-false short (some 1) _ long ∙ go sheet
      where
        go : (w : Bool) → first_of (cond w (state_rows (state_in h)) (table_rows (state_in h)) ++ later) ≡ some 5
        go true = cond-true (not ok) (some 5) _ (not-of ok e)
        go false = cond-true (not ok) (some 5) _ (not-of ok e)

    -- What the code tests in every call is one row more for those that have the sheet, and none for the others.
    after-5 : ok ≡ true → (passes : Bool) → passes ≡ (not sheet || matches? (table_in h).leases (state_in h).rows) → first_of rows ≡ first_of ((15, not passes) ∷ later)
    after-5 e passes is = cond-false short (some 1) _ long ∙ go sheet is
      where
        go : (w : Bool) → passes ≡ (not w || matches? (table_in h).leases (state_in h).rows)
            → first_of (cond w (state_rows (state_in h)) (table_rows (state_in h)) ++ later) ≡ first_of ((15, not passes) ∷ later)
        go true p = cond-false (not ok) (some 5) _ (not-to ok e) ∙ ap (λ (b : Bool). first_of ((15, not b) ∷ later)) (sym p)
        go false p = cond-false (not ok) (some 5) _ (not-to ok e) ∙ sym (cond-false (not passes) (some 15) _ (not-to passes p))

-- AN OPEN BOOK: its buffers are those of what is given in its place.
module _ (b : Book) (now : ℕ) (image : Bytes b.lent.image) (summary : ImageSummary) (i : SummaryIn (lent_in b) now (Some summary)) where
  abbrev h : Lent
  h = lent_in b

  in_image : Bytes h.image
  in_image = subst Bytes (sym (same-buffers b).0) image

  pub book-measured : Measured summary b.lent.image
  book-measured = subst (Measured summary) (same-buffers b).0 (measured h now in_image summary i)

  module _ (sheet short : Bool) (client : ℕ) (figures : Bytes b.lent.figures) (passes : Bool) (p : SheetPasses sheet summary b.lent.image b.lent.figures passes) where
    its-sheet : passes ≡ (not sheet || matches? (table_in h).leases (state_in h).rows)
    its-sheet =
        let same = same-buffers b in
        passes-is h now in_image summary i sheet passes
        (subst (λ (f : List ℕ). SheetPasses sheet summary h.image f passes) (sym same.1)
        (subst (λ (l : List ℕ). SheetPasses sheet summary l b.lent.figures passes) (sym same.0) p))

    pub rows-after-5 : short ≡ false
        → first_of (admission_rows sheet short h now client)
        ≡ first_of ((15, not passes) ∷ (2, eqb client 0) ∷ (3, ltb now summary.last) ∷ (4, ltb latest now) ∷ [])
    rows-after-5 long =
        after-5 sheet short h now client long (sym i.sound) passes its-sheet
        ∙ ap (λ (n : ℕ). first_of ((15, not passes) ∷ (2, eqb client 0) ∷ (3, ltb now n) ∷ (4, ltb latest now) ∷ [])) (sym (last-is h now in_image summary i))

    pub book-admitted : passes ≡ true → eqb client 0 ≡ false → summary.last ≤ now → now ≤ latest → Admitted sheet h now client summary
    book-admitted matched named since early =
        let s : sound (table_in h) ≡ true = sym i.sound in
        let f : Bytes h.figures = subst Bytes (sym (same-buffers b).1) figures in
        admits h now in_image summary i sheet client named (subst (λ (n : ℕ). n ≤ now) (last-is h now in_image summary i) since) early
        (λ c.
        let m : Matched (state_in h) = ap (λ (x : Bool). not x || matches? (table_in h).leases (state_in h).rows) (sym c) ∙ sym its-sheet ∙ matched in
        record { matched = m; size = held-size h s m; whole = held-sheet h s m f })
