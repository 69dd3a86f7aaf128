-- `sheet_text::write_sheet` meets its contract: the first row, then the others.
use native.Mathlib.Omega.{arith}
use Rattle.sheet_text.proofs.RowTexts.{head-length}
use Rattle.sheet_text.proofs.AnswerLaws.{refused-small, enough, head-fits, write-ready, written}
use Rattle.sheet_text.proofs.write_sheet.Goals as goal

pub returns-then-too_small : goal.returns-then-too_small
returns-then-too_small c = refused-small _ _ _ c.requires _ _ c.too_small.ensures c.if-too_small.true

pub put_head-head-requires : goal.put_head-head-requires
put_head-head-requires c =
    let pre = c.requires in
    let free = c.free_rows-free in
    omega (arith, head-length c.args.n free.result, head-fits _ _ _ pre _ free.ensures _ (enough _ _ _ pre _ _ c.too_small.ensures c.if-too_small.false))

pub show_pools-size-requires : goal.show_pools-size-requires
show_pools-size-requires c =
    let pre = c.requires in
    let head = c.put_head-head in
    write-ready _ _ _ pre _ c.free_rows-free.ensures _ _ _ head.ensures head.auto.out (enough _ _ _ pre _ _ c.too_small.ensures c.if-too_small.false)

pub returns : goal.returns
returns c =
    let pre = c.requires in
    written _ _ _ pre _ c.free_rows-free.ensures _ _ _ c.put_head-head.ensures (enough _ _ _ pre _ _ c.too_small.ensures c.if-too_small.false) _ _ c.show_pools-size.ensures
