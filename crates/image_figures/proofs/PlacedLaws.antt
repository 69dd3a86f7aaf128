-- Laws of one lease's row placed among the rows of a sheet.
-- Assumes nothing.
use Prim.Native.Nat.{ℕ, zero, suc, ◌+◌, ◌-◌, ◌*◌, ◌≤◌, ◌<◌}
use native.Mathlib.Omega.{arith}
use mathlib.Core.Path.{◌≡◌, sym, ap, ◌∙◌}
use mathlib.Core.Bool.{true, false}
use mathlib.Core.List.{List}
use lib.ListN.{length, set, get_or}
use Rattle.lists.specs.Put.{put}
use Rattle.lists.proofs.Tests.{cond-true, cond-false}
use Rattle.table.specs.declared.Lease.{Lease}
use Rattle.figures.specs.declared.FigureRow.{FigureRow}
use Rattle.figures.specs.Figures.{empty_row, untold_row, of_lease?}
use Rattle.image_figures.specs.Sheets.{row_size, row_bytes, sheet_of}
use Rattle.image_figures.specs.Inner.{own?, placed}
use Rattle.image_figures.proofs.RowLaws.{sheet-length, row-edited}

pub own-none : (rows : List FigureRow) (left : ℕ) (x : Lease) → left ≡ 0 → own? rows left x ≡ false
unfolding own?
own-none rows left x e = ap (λ (i : ℕ). own? rows i x) e

pub own_at : (rows : List FigureRow) (left : ℕ) (x : Lease) → 0 < left → own? rows left x ≡ of_lease? x (get_or rows (left - 1) empty_row)
unfolding own?
own_at rows zero x h = absurd (omega arith)
own_at rows (suc i) x h = let e : i ≡ suc i - 1 = omega arith in ap (λ (j : ℕ). of_lease? x (get_or rows j empty_row)) e

module _ (l : List ℕ) (left k : ℕ) (x : Lease) (room : row_size * k + row_size ≤ length l) (rows : List FigureRow) (s : l ≡ sheet_of rows) (l₁ : List ℕ) where
  inside : k < length rows
  inside = omega (arith, sheet-length l rows s)

  own : ℕ × List FigureRow
  own = (left - 1, set rows k (get_or rows (left - 1) empty_row))

  new : ℕ × List FigureRow
  new = (left, set rows k (untold_row x))

  pub placed-new : own? rows left x ≡ false → l₁ ≡ put l (row_size * k) (row_bytes (untold_row x)) → (left ≡ (placed rows left k x).0) × (l₁ ≡ sheet_of (placed rows left k x).1)
  unfolding placed own new
  placed-new f e =
      let q : placed rows left k x ≡ new = cond-false (own? rows left x) own new f in
      (sym (ap (λ (w : ℕ × List FigureRow). w.0) q), row-edited l rows s l₁ k (untold_row x) inside e ∙ sym (ap (λ (w : ℕ × List FigureRow). sheet_of w.1) q))

  pub placed-own : own? rows left x ≡ true → l₁ ≡ put l (row_size * k) (row_bytes (get_or rows (left - 1) empty_row))
      → (left - 1 ≡ (placed rows left k x).0) × (l₁ ≡ sheet_of (placed rows left k x).1)
  unfolding placed own new
  placed-own f e =
      let q : placed rows left k x ≡ own = cond-true (own? rows left x) own new f in (
        sym (ap (λ (w : ℕ × List FigureRow). w.0) q),
        row-edited l rows s l₁ k (get_or rows (left - 1) empty_row) inside e ∙ sym (ap (λ (w : ℕ × List FigureRow). sheet_of w.1) q),
      )
