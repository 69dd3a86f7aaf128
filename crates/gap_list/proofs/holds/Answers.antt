-- `holds` meets its contract.
use mathlib.Core.Path.{sym}
use borrow.Author.Tests.{leb-false}
use Rattle.gap_list.proofs.EndLaws.{gap-passed}
use Rattle.gap_list.proofs.holds.Goals as goal

pub returns : goal.returns
returns c e = let a = c.args in rw (sym c.from.ensures, sym c.from-2.ensures) (gap-passed a.mask c.from.result c.from-2.result (leb-false _ _ e))
