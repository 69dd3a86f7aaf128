-- `sheet_text::put_row` meets its contract.
use Prim.Native.Nat.{◌+◌, ◌≤◌}
use mathlib.Core.Path.{sym, subst}
use native.Mathlib.Omega.{arith}
use lib.ListN.{length}
use Rattle.text.specs.Wrote.{Wrote}
use Rattle.sheet_text.specs.declared.Row.{Row}
use Rattle.sheet_text.specs.Sheet.{row_text}
use Rattle.sheet_text.specs.InnerScan.{row_of}
use Rattle.sheet_text.proofs.RowTexts.{used-length, free-length}
use Rattle.sheet_text.proofs.put_row.Goals as goal

-- Room for the row, and the row written, as what it is.
pub put_used-requires : goal.put_used-requires
put_used-requires c =
    let a = c.args in
    omega (arith, used-length c.in-Lease.x, subst (λ (r : Row). a.at + length (row_text (row_of r)) ≤ length a.out.now) c.in-Lease.is c.requires)

pub put_free-requires : goal.put_free-requires
put_free-requires c =
    let a = c.args in
    omega (arith, free-length c.in-Free.p, subst (λ (r : Row). a.at + length (row_text (row_of r)) ≤ length a.out.now) c.in-Free.is c.requires)

pub returns-in-Lease : goal.returns-in-Lease
returns-in-Lease c = subst (λ (r : Row). Wrote c.args.out.now c.args.at (row_text (row_of r)) c.put_used.new.out c.put_used.result) (sym c.in-Lease.is) c.put_used.ensures

pub returns-in-Free : goal.returns-in-Free
returns-in-Free c = subst (λ (r : Row). Wrote c.args.out.now c.args.at (row_text (row_of r)) c.put_free.new.out c.put_free.result) (sym c.in-Free.is) c.put_free.ensures
