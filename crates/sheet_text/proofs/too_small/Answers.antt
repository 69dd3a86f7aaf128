-- `sheet_text::too_small` meets its contract: the longest rows, or those that there are.
use mathlib.Core.Path.{refl}
use native.Mathlib.Omega.{arith}
use Rattle.sheet_text.proofs.RowTexts.{any_head}
use Rattle.sheet_text.proofs.AnswerLaws.{surely-fits, measure-ready, measured}
use Rattle.sheet_text.proofs.too_small.Goals as goal

pub returns-then-n-free : goal.returns-then-n-free
returns-then-n-free c =
    let a = c.args in
    let pre = c.requires in
    surely-fits _ _ _ pre.0 a.free pre.1 a.room (omega (arith, c.if-n-free.true))

pub put_head-head-requires : goal.put_head-head-requires
put_head-head-requires c = let a = c.args in omega (arith, any_head a.n a.free)

pub show_pools-requires : goal.show_pools-requires
show_pools-requires c = let pre = c.requires in measure-ready _ _ _ pre.0 _ pre.1 _ _ _ c.put_head-head.ensures _ refl

pub returns : goal.returns
returns c = let pre = c.requires in measured _ _ _ pre.0 _ pre.1 _ _ _ c.put_head-head.ensures _ _ _ _ c.show_pools.ensures
