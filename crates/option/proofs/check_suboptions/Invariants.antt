use Prim.Native.Nat.{◌-◌, ◌≤◌}
use mathlib.Core.Path.{◌≡◌}
use lib.ListN.{length}
use Rattle.option.specs.Reading.{read_suboptions}
use Rattle.option.proofs.check_suboptions.Given as goal

abbrev pub invariant-loop-next : goal.invariant-loop-next
invariant-loop-next l = (l.cursor.at ≤ length l.s) × ((read_suboptions l.s 3).1 ≡ (read_suboptions l.s l.cursor.at).1)

abbrev pub decreases-loop-next : goal.decreases-loop-next
decreases-loop-next l = length l.s - l.cursor.at
