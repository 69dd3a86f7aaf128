-- `image_counts::pool_row` meets its contract.
use native.Mathlib.Omega.{arith}
use Rattle.prefix.specs.Prefixes.{end}
use Rattle.image_counts.proofs.TallyLaws.{none_here}
use Rattle.image_counts.proofs.PassLaws.{opened-none, closed_none, row_told, row-bare}
use Rattle.image_counts.proofs.pool_row.Goals as goal

pub returns-then-end-first : goal.returns-then-end-first
returns-then-end-first c =
    let a = c.args in
    let read = c.network_at-first in
    let stop = c.end in
    row-bare a.image.now a.from a.n a.p a.at c.requires.0
    (none_here a.image.now a.from a.n (end a.p) a.at (omega arith) (omega (arith, read.ensures, stop.ensures.value, c.if-end-first.true)))
    c.bare.new.row c.bare.ensures

pub fill-requires : goal.fill-requires
fill-requires c =
    let a = c.args in
    let pre = c.requires.0 in
    let told = c.in_pool-t in (
      pre.from-shortest,
      pre.to-longest,
      told.ensures.few-opened,
      told.ensures.few-closed,
      opened-none a.image.now a.from a.n a.p a.at pre told.result told.ensures,
      closed_none a.image.now a.from a.n a.p a.at pre told.result told.ensures,
      c.requires.2,
    )

pub returns : goal.returns
returns c =
    let a = c.args in
    let told = c.in_pool-t in
    row_told a.image.now a.from a.n a.p a.at c.requires.0 told.result told.ensures c.fill.new.row c.fill.ensures
