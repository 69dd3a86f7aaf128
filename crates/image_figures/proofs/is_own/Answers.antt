-- `image_figures::is_own` meets its contract.
use Prim.Native.Nat.{◌-◌}
use mathlib.Core.Path.{sym, ap, ◌∙◌}
use mathlib.Core.Bool.{true≢false}
use native.Mathlib.Omega.{arith}
use lib.ListN.{drop}
use Rattle.figures.specs.Figures.{of_lease?}
use Rattle.image.specs.Reading.{lease_in}
use Rattle.image_figures.proofs.RowLaws.{sheet-length, row-in-place}
use Rattle.image_figures.proofs.PlacedLaws.{own-none, own_at}
use Rattle.image_figures.proofs.is_own.Goals as goal

pub returns-then-left-eq0 : goal.returns-then-left-eq0
returns-then-left-eq0 c = let a = c.args in record { left_nonzero = λ t. absurd (true≢false (sym t)); value = λ rows s. sym (own-none rows a.left (lease_in (drop a.place a.image.now)) c.if-left-eq0.true) }

pub returns : goal.returns
returns c =
    let a = c.args in
    let x = lease_in (drop a.place a.image.now) in record {
      left_nonzero = λ t. omega arith;
      value = λ rows s.
          c.of_lease_at.ensures
          ∙ ap (of_lease? x) (row-in-place a.sheet.now rows s (a.left - 1) (omega (arith, sheet-length a.sheet.now rows s)))
          ∙ sym (own_at rows a.left x (omega arith));
    }
