-- `EntryCursor::step` meets its contract: each answer is that of the first framing test that fails.
use mathlib.Core.Bool.{and-false}
use borrow.Author.Tests.{eq-eqb, ne_eqb, le-leb, lt-leb}
use Rattle.option_entry.specs.Entries.{read_entry, entry_framed?, entry_at}
use Rattle.option_entry.proofs.EntryCursor.step.Goals as goal

pub returns-then-end-at : goal.returns-then-end-at
unfolding read_entry
returns-then-end-at c = simp (le-leb _ _ c.if-end-at.true)

pub returns-then-s-end : goal.returns-then-s-end
unfolding read_entry entry_framed?
returns-then-s-end c = simp (lt-leb _ _ c.if-end-at.false, lt-leb _ _ c.if-s-end.true)

pub returns-then-end-at-2 : goal.returns-then-end-at-2
unfolding read_entry entry_framed?
returns-then-end-at-2 c = simp (lt-leb _ _ c.if-end-at.false, lt-leb _ _ c.if-end-at-2.true, and-false)

pub returns-then-stat-ne0 : goal.returns-then-stat-ne0
unfolding read_entry entry_framed?
returns-then-stat-ne0 c = simp (lt-leb _ _ c.if-end-at.false, ne_eqb _ _ c.if-stat-ne0.true, and-false)

pub returns-then-end-next : goal.returns-then-end-next
unfolding read_entry entry_framed?
returns-then-end-next c =
    let short = simp c.from.ensures at c.if-end-next.true in
    simp (lt-leb _ _ c.if-end-at.false, lt-leb _ _ short, and-false)

pub returns : goal.returns
unfolding read_entry entry_framed? entry_at
returns c =
    let within = simp c.from.ensures at c.if-end-next.false in
    simp (
      lt-leb _ _ c.if-end-at.false,
      le-leb _ _ c.if-s-end.false,
      le-leb _ _ c.if-end-at-2.false,
      eq-eqb _ _ c.if-stat-ne0.false,
      le-leb _ _ within,
      c.from.ensures,
      c.four_at.ensures,
      c.figures_at.ensures,
      c.from-2.ensures,
    )
