use mathlib.Core.Path.{◌≡◌}
use lib.ListN.{length}
use Rattle.sheet_text.specs.InnerScan.{Showed}
use Rattle.sheet_text.proofs.ShowLaws.{scan_first}
use Rattle.sheet_text.proofs.show_pools.Given as goal

abbrev pub invariant-loop-j : goal.invariant-loop-j
invariant-loop-j l = Showed l.initial.out l.from (scan_first l.image l.base l.n l.j) l.out l.at l.next × (length l.out ≡ length l.initial.out)
