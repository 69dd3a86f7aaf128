-- Laws of the rows of leases, once those of the expired ones are struck.
-- Assumes nothing.
use Prim.Native.Nat.{ℕ, ◌-◌}
use mathlib.Core.Path.{◌≡◌, sym, ap₂, ◌∙◌}
use mathlib.Core.Logic.{⊎_elim}
use mathlib.Core.Bool.{true, false}
use mathlib.Core.List.{List, ◌++◌}
use lib.ListN.{length, drop, replicate}
use lib.Dec.{eqb}
use borrow.Author.Tests.{eqb-true, eqb-false, eq-eqb, ne_eqb}
use Rattle.lists.proofs.Tests.{bool_cases, cond-true, cond-false}
use Rattle.table.specs.declared.Lease.{Lease}
use Rattle.table.specs.Table.{present}
use Rattle.figures.specs.declared.FigureRow.{FigureRow}
use Rattle.figures.specs.Figures.{empty_row, kept_rows}
use Rattle.image_figures.specs.Sheets.{sheet_of}
use Rattle.call_rows.specs.StruckRows.{struck_in, struck_if}

-- As `strike` leaves them, of n leases of which r are present.
pub struck-in : (n r now : ℕ) (xs : List Lease) (rows : List FigureRow) (sheet : List ℕ) → n ≡ length xs
    → (r ≡ length (present now xs)) × (sheet ≡ sheet_of (kept_rows now xs rows ++ (replicate (n - r) empty_row ++ drop n rows))) → sheet ≡ sheet_of (struck_in now xs rows)
struck-in n r now xs rows sheet counted e =
    e.1 ∙ ap₂ (λ (k m : ℕ). sheet_of (kept_rows now xs rows ++ (replicate (k - m) empty_row ++ drop k rows))) counted e.0

-- Whether or not a lease has expired.
module _ (expired now : ℕ) (xs : List Lease) (rows : List FigureRow) where
  pub struck-none : expired ≡ 0 → rows ≡ struck_if expired now xs rows
  unfolding struck_if
  struck-none e = sym (cond-true (eqb expired 0) rows (struck_in now xs rows) (eq-eqb expired 0 e))

  pub struck-some : (expired ≡ 0 → ⊥) → struck_in now xs rows ≡ struck_if expired now xs rows
  unfolding struck_if
  struck-some k = sym (cond-false (eqb expired 0) rows (struck_in now xs rows) (ne_eqb expired 0 k))

  pub struck-is : (after : List FigureRow) → (expired ≡ 0 → rows ≡ after) → struck_in now xs rows ≡ after → struck_if expired now xs rows ≡ after
  struck-is after none-gone some-gone =
      ⊎_elim
      (λ (e : eqb expired 0 ≡ true). let z = eqb-true expired 0 e in sym (struck-none z) ∙ none-gone z)
      (λ (e : eqb expired 0 ≡ false). sym (struck-some (eqb-false expired 0 e)) ∙ some-gone)
      (bool_cases (eqb expired 0))
