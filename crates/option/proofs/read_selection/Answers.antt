-- `read_selection` meets its contract: row 6, test by test, then the address.
use mathlib.Core.Path.{◌≡◌}
use mathlib.Core.Bool.{and-false}
use native.Mathlib.Omega.{arith}
use lib.ListN.{get_or}
use borrow.Author.Tests.{eq-eqb, ne_eqb, le-leb, lt-leb}
use Rattle.option.specs.Selection.{selection?, read_selection}
use Rattle.option.proofs.read_selection.Goals as goal

pub returns-then-s-lt2 : goal.returns-then-s-lt2
unfolding read_selection selection?
returns-then-s-lt2 c = simp (lt-leb _ _ c.if-s-lt2.true)

pub returns-then-s-ne118 : goal.returns-then-s-ne118
unfolding read_selection selection?
returns-then-s-ne118 c = simp (ne_eqb _ _ c.if-s-ne118.true, and-false)

pub returns-then-counted-s : goal.returns-then-counted-s
unfolding read_selection selection?
returns-then-counted-s c =
    let wrong = simp c.from-counted.ensures at c.if-counted-s.true in
    simp (ne_eqb _ _ wrong, and-false)

pub returns-then-counted-ne4 : goal.returns-then-counted-ne4
unfolding read_selection selection?
returns-then-counted-ne4 c =
    let other = simp c.from-counted.ensures at c.if-counted-ne4.true in
    simp (ne_eqb _ _ other, and-false)

pub returns : goal.returns
unfolding read_selection selection?
returns c =
    let len = simp c.from-counted.ensures at c.if-counted-s.false in
    let four : get_or c.args.s.now 1 0 ≡ 4 = omega arith in
    simp (le-leb _ _ c.if-s-lt2.false, eq-eqb _ _ c.if-s-ne118.false, eq-eqb _ _ len, eq-eqb _ _ four, c.four_at.ensures)
