-- `image_counts::fill` meets its contract. The loop's invariant: the sums up to a length, and the places filled and those ahead are the row. The measure is
-- the number of places ahead.
use Prim.Native.Nat.{ℕ, ◌+◌, ◌-◌}
use mathlib.Core.Path.{◌≡◌, sym, ap, ◌∙◌}
use mathlib.Core.List.{List, ◌++◌}
use native.Mathlib.Omega.{arith}
use lib.ListN.{length, take, set, length-set}
use Rattle.table.specs.Table.{shortest_pool}
use Rattle.counts.specs.Counts.{counted_lengths}
use Rattle.image_counts.specs.InnerTally.{both_of, frees_on}
use Rattle.image_counts.proofs.FreeLaws.{row_first, row_next, row-all, total_first, total-more}
use Rattle.image_counts.proofs.SideLaws.{both_at}
use Rattle.image_counts.proofs.fill.Goals as goal

pub overflow_add-down-2 : goal.overflow_add-down-2
overflow_add-down-2 c =
    let a = c.args in
    let pre = c.requires in
    omega (arith, pre.3 a.pool, both_at a.sides a.pool (omega (arith, pre.1)), pre.1)

pub loop-j-init : goal.loop-j-init
loop-j-init c =
    let a = c.args in
    let pre = c.requires in
    let closed : List ℕ = both_of a.sides in
    let at : ℕ = a.pool - shortest_pool in
    let place : at + shortest_pool ≡ a.pool = omega (arith, pre.0) in
    let here = both_at a.sides a.pool (omega (arith, pre.1)) in (
      omega (arith, pre.1),
      total_first a.opened a.pool at pre.4 place,
      sym here ∙ total_first closed a.pool at pre.5 place,
      omega (arith, pre.2 a.pool),
      omega (arith, pre.3 a.pool, here),
      ap (λ (l : List ℕ). take (at + 1) (set l at c.saturating_sub.result) ++ frees_on a.pool a.opened closed (at + 1 + 7) (counted_lengths - (at + 1))) pre.6
          ∙ row_first a.pool a.opened closed pre.4 pre.5 at c.saturating_sub.result place (omega (arith, pre.1)) c.saturating_sub.ensures,
      length-set a.row.now at c.saturating_sub.result ∙ ap length pre.6,
      omega (arith, pre.0),
    )

pub overflow_add-opened : goal.overflow_add-opened
overflow_add-opened c =
    let pre = c.requires in
    let loop = c.loop-j in
    omega (arith, pre.2 (loop.j + 8), loop.invariant)

pub overflow_add-up : goal.overflow_add-up
overflow_add-up c =
    let pre = c.requires in
    let loop = c.loop-j in
    omega (arith, pre.2 (loop.j + 8), loop.invariant)

pub overflow_add-down-in-loop-j-2 : goal.overflow_add-down-in-loop-j-2
overflow_add-down-in-loop-j-2 c =
    let a = c.args in
    let pre = c.requires in
    let loop = c.loop-j in
    omega (arith, pre.3 (loop.j + 8), both_at a.sides (loop.j + 8) (omega arith), loop.invariant)

pub overflow_add-down-in-loop-j-3 : goal.overflow_add-down-in-loop-j-3
overflow_add-down-in-loop-j-3 c =
    let a = c.args in
    let pre = c.requires in
    let loop = c.loop-j in
    omega (arith, pre.3 (loop.j + 8), both_at a.sides (loop.j + 8) (omega arith), loop.invariant)

pub loop-j-preserved : goal.loop-j-preserved
loop-j-preserved c =
    let a = c.args in
    let pre = c.requires in
    let loop = c.loop-j in
    let here = both_at a.sides (loop.j + 8) (omega arith) in (
      omega arith,
      total-more a.opened loop.j loop.up loop.invariant.1,
      ap (λ (m : ℕ). loop.down + m) (sym here) ∙ total-more (both_of a.sides) loop.j loop.down loop.invariant.2,
      omega (arith, pre.2 (loop.j + 8), loop.invariant),
      omega (arith, pre.3 (loop.j + 8), here, loop.invariant),
      row_next a.pool a.opened (both_of a.sides) loop.row loop.j loop.up loop.down c.saturating_sub-in-loop-j.result (omega arith) loop.invariant.7 loop.invariant.6 loop.invariant.1 loop.invariant.2 c.saturating_sub-in-loop-j.ensures
          loop.invariant.5,
      length-set loop.row loop.j c.saturating_sub-in-loop-j.result ∙ loop.invariant.6,
      omega (arith, loop.invariant.7),
    )

pub returns : goal.returns
returns c =
    let a = c.args in
    let loop = c.loop-j in
    row-all a.pool a.opened (both_of a.sides) loop.row loop.j loop.invariant.0 (omega arith) loop.invariant.6 loop.invariant.5
