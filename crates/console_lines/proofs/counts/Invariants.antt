use Prim.Native.Nat.{◌+◌, ◌*◌, ◌≤◌}
use mathlib.Core.Path.{◌≡◌}
use lib.ListN.{length, take}
use Rattle.text.specs.Wrote.{Wrote}
use Rattle.console_lines.specs.Sizes.{pool_most}
use Rattle.console_lines.specs.CountLines.{pool_texts, pools_at}
use Rattle.console_lines.proofs.counts.Given as goal

abbrev pub invariant-loop-k : goal.invariant-loop-k
invariant-loop-k l = (l.end ≤ l.at + pool_most * l.k) × (length l.out ≡ length l.initial.out) × Wrote l.initial.out l.at (pool_texts (pools_at l.k l.pools) (take l.k l.fn.counts)) l.out l.end
