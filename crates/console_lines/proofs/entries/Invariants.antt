use Prim.Native.Nat.{◌+◌, ◌-◌, ◌*◌, ◌≤◌}
use mathlib.Core.Path.{◌≡◌}
use lib.ListN.{length}
use Rattle.console_lines.proofs.entries.Given as goal

abbrev pub invariant-loop-e : goal.invariant-loop-e
invariant-loop-e l = (l.end + 28 * (l.cursor.end - l.cursor.at) ≤ l.at + 28 * (l.initial.cursor.end - l.initial.cursor.at)) × (length l.out ≡ length l.initial.out)

abbrev pub decreases-loop-e : goal.decreases-loop-e
decreases-loop-e l = l.cursor.end - l.cursor.at
