-- `carve` meets its contract: something is left of the gap on both sides, below, above, or nothing.
use Prim.Native.Nat.{ℕ, ◌+◌}
use mathlib.Core.Path.{ap₂, ◌∙◌}
use native.Mathlib.Omega.{arith}
use Rattle.gap_list.proofs.ColumnLaws.{part-both, part-below, part-above, part_none}
use Rattle.gap_list.proofs.carve.Goals as goal

pub returns-then-after-last : goal.returns-then-after-last
returns-then-after-last c =
    let a = c.args in
    part-both a.gaps.now a.n a.index a.network a.length c.requires.0 c.requires.2 c.requires.1 _ c.copy_within.ensures.after _
    (omega (arith, c.from.ensures, c.size.ensures.value)) c.if-gap-network.true (omega (arith, c.from-last.ensures, c.if-after-last.true))

pub returns-then-gap-network : goal.returns-then-gap-network
returns-then-gap-network c =
    let a = c.args in
    part-below a.gaps.now a.n a.index a.network a.length c.requires.0 c.requires.2 c.if-gap-network.true
    (omega (arith, c.if-after-last.false, c.size.ensures.value, c.from.ensures, c.from-last.ensures))

pub returns-then-after-last-2 : goal.returns-then-after-last-2
returns-then-after-last-2 c =
    let a = c.args in
    part-above a.gaps.now a.n a.index a.network a.length c.requires.0 c.requires.2 _
    (omega (arith, c.from.ensures, c.size.ensures.value)) c.if-gap-network.false (omega (arith, c.from-last.ensures, c.if-after-last-2.true))

pub returns : goal.returns
returns c =
    let a = c.args in
    part_none a.gaps.now a.n a.index a.network a.length c.requires.0 c.requires.2
    c.if-gap-network.false (omega (arith, c.if-after-last-2.false, c.size.ensures.value, c.from.ensures, c.from-last.ensures))
