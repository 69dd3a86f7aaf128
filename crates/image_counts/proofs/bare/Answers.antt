-- `image_counts::bare` meets its contract.
use Prim.Native.Nat.{ℕ, ◌-◌}
use mathlib.Core.Path.{ap, ◌∙◌}
use mathlib.Core.List.{List}
use native.Mathlib.Omega.{arith}
use lib.ListN.{set}
use Rattle.table.specs.Table.{shortest_pool}
use Rattle.counts.specs.Counts.{counted_lengths}
use Rattle.image_counts.proofs.FreeLaws.{bare-is}
use Rattle.image_counts.proofs.bare.Goals as goal

pub returns : goal.returns
returns c =
    ap (λ (l : List ℕ). set l (c.args.pool - shortest_pool) 1) c.requires.2
    ∙ bare-is c.args.pool (shortest_pool - 1) (c.args.pool - shortest_pool) counted_lengths (omega (arith, c.requires.0)) (omega (arith, c.requires.1))
