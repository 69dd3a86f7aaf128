-- `is_option` meets its contract: row 6, test by test.
use native.Mathlib.Omega.{arith}
use mathlib.Core.Bool.{and-false, false≢true}
use borrow.Author.Tests.{eq-eqb, ne_eqb, le-leb, lt-leb}
use Rattle.option.specs.Reading.{option?}
use Rattle.option.proofs.is_option.Goals as goal

pub returns-then-s-lt2 : goal.returns-then-s-lt2
unfolding option?
returns-then-s-lt2 c = (simp (lt-leb _ _ c.if-s-lt2.true), λ e. absurd (false≢true e))

pub returns-then-s : goal.returns-then-s
unfolding option?
returns-then-s c = (simp (ne_eqb _ _ c.if-s.true, and-false), λ e. absurd (false≢true e))

pub returns-then-len-s : goal.returns-then-len-s
unfolding option?
returns-then-len-s c =
    let wrong = simp c.from-len.ensures at c.if-len-s.true in
    (simp (ne_eqb _ _ wrong, and-false), λ e. absurd (false≢true e))

pub returns-then-len-lt2 : goal.returns-then-len-lt2
unfolding option?
returns-then-len-lt2 c =
    let none = simp c.from-len.ensures at c.if-len-lt2.true in
    (simp (lt-leb _ _ none, and-false), λ e. absurd (false≢true e))

pub returns : goal.returns
unfolding option?
returns c =
    let w = c.from-len.ensures in
    let len = simp w at c.if-len-s.false in
    let some = simp w at c.if-len-lt2.false in (
      simp (le-leb _ _ c.if-s-lt2.false, eq-eqb _ _ c.if-s.false, eq-eqb _ _ len, le-leb _ _ some),
      λ e. omega (arith, c.from-len.ensures, c.type_inv.s 1, c.if-len-s.false),
    )
