use Prim.Native.Nat.{◌+◌, ◌*◌, ◌≤◌}
use mathlib.Core.Path.{◌≡◌}
use lib.ListN.{length, take}
use Rattle.text.specs.Wrote.{Wrote}
use Rattle.table.specs.Table.{shortest_pool}
use Rattle.console_lines.specs.InnerSizes.{count_most}
use Rattle.console_lines.specs.CountLines.{row_counts}
use Rattle.console_lines.proofs.row_counts.Given as goal

abbrev pub invariant-loop-j : goal.invariant-loop-j
invariant-loop-j l = (l.end ≤ l.at + count_most * l.j) × (length l.out ≡ length l.initial.out) × Wrote l.initial.out l.at (row_counts shortest_pool (take l.j l.fn.row)) l.out l.end
