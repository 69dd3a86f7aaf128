-- `figures_at` meets its contract: each count of bytes gives that many figures.
use native.Mathlib.Omega.{arith}
use Rattle.option_entry.specs.Entries.{figures_at}
use Rattle.option_entry.proofs.FigureLaws.{figures-three}
use Rattle.option_entry.proofs.figures_at.Goals as goal

pub returns-in-0 : goal.returns-in-0
unfolding figures_at
returns-in-0 c = simp c.in-0.is

pub returns-in-1 : goal.returns-in-1
unfolding figures_at
returns-in-1 c = simp (c.in-1.is, c.two_at.ensures)

pub returns-in-2 : goal.returns-in-2
unfolding figures_at
returns-in-2 c = simp (c.in-2.is, c.two_at-in-2.ensures, c.two_at-in-2-2.ensures)

pub returns-in_default : goal.returns-in_default
returns-in_default c =
    let a = c.args in
    simp (
      figures-three a.s.now a.at a.n (omega arith),
      c.two_at-in_default.ensures,
      c.two_at-in_default-2.ensures,
      c.two_at-in_default-3.ensures,
    )
