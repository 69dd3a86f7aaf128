-- `image_figures::place_row` meets its contract.
use Prim.Native.Nat.{ℕ, ◌-◌, ◌*◌, ◌<◌}
use mathlib.Core.Path.{◌≡◌, sym, ap, ◌∙◌}
use native.Mathlib.Omega.{arith}
use lib.ListN.{length, drop}
use Rattle.lists.specs.Put.{put}
use Rattle.table.specs.declared.Lease.{Lease}
use Rattle.figures.specs.declared.FigureRow.{FigureRow}
use Rattle.image.specs.Reading.{lease_in}
use Rattle.image_figures.specs.Sheets.{row_size, row_bytes}
use Rattle.image_figures.specs.Inner.{own?}
use Rattle.image_figures.proofs.RowLaws.{sheet-length, bytes-in-place}
use Rattle.image_figures.proofs.PlacedLaws.{placed-new, placed-own}
use Rattle.image_figures.proofs.place_row.Goals as goal

pub overflow_sub-left : goal.overflow_sub-left
overflow_sub-left c = omega (arith, c.is_own.ensures.left_nonzero c.if-is_own.true)

pub overflow_sub-result : goal.overflow_sub-result
overflow_sub-result c = omega (arith, c.is_own.ensures.left_nonzero c.if-is_own.true)

pub returns-then-is_own : goal.returns-then-is_own
returns-then-is_own c =
    let a = c.args in
    let is = c.is_own in
    let some = is.ensures.left_nonzero c.if-is_own.true in record {
      upper_bound = omega (arith, some);
      value = λ rows x s e.
          let inside : a.left - 1 < length rows = omega (arith, sheet-length a.sheet.now rows s, c.requires.0, c.requires.1, some) in
          placed-own a.sheet.now a.left a.k x c.requires.1 rows s _ (ap (own? rows a.left) e ∙ sym (is.ensures.value rows s) ∙ c.if-is_own.true)
          (c.put_chunk.ensures ∙ ap (put a.sheet.now (row_size * a.k)) (c.chunk_at-row.ensures ∙ bytes-in-place a.sheet.now rows s (a.left - 1) inside));
    }

pub returns : goal.returns
returns c =
    let a = c.args in
    let is = c.is_own in record {
      upper_bound = omega arith;
      value = λ rows x s e.
          let same : (f : Lease → ℕ) → f x ≡ f (lease_in (drop a.place a.image.now)) = λ f. ap f e in
          placed-new a.sheet.now a.left a.k x c.requires.1 rows s _ (ap (own? rows a.left) e ∙ sym (is.ensures.value rows s) ∙ c.if-is_own.false)
          (c.put_row.ensures
          ∙ ap (λ (r : FigureRow). put a.sheet.now (row_size * a.k) (row_bytes r))
          (c.untold_row-new.ensures x (same (λ (y : Lease). y.network) ∙ sym c.network_at.ensures) (same (λ (y : Lease). y.length) ∙ sym c.length_at.ensures)));
    }
