-- `fit` meets its contract. The loop's invariant: the best fit in the rest is the best fit in all.
use mathlib.Core.Path.{◌∙◌}
use native.Mathlib.Omega.{arith}
use lib.ListN.{get_or}
use Rattle.prefix.proofs.PrefixLaws.{size-positive}
use Rattle.gap_list.proofs.EndLaws.{bits-some}
use Rattle.gap_list.proofs.SearchLaws.{search-start, search-end, search-keep, search-open, search-small, search-better, search-exact}
use Rattle.gap_list.proofs.fit.Goals as goal
use Rattle.gap_list.proofs.fit.Goals.{then-ends-most-ne0+else-most-size, else-ends-most-ne0}

pub loop-index-init : goal.loop-index-init
loop-index-init c = search-start c.args.gaps.now c.args.length

pub at_end-end-requires : goal.at_end-end-requires
at_end-end-requires c =
    let a = c.args in
    let s = c.size-size in
    let l = c.loop-index in
    let gap = search-open a.gaps.now a.length s.result l.best l.most l.from l.invariant s.ensures.value c.in-Some.index c.in-Some.ensures _ _ c.bits-ends.result c.cut-low.ensures.low c.cut-low.ensures.high c.bits-ends.ensures c.if-ends-most-ne0.true in
    (gap, c.cut-low.ensures.upper_bound, c.bits-ends.ensures ∙ bits-some _ _ gap)

pub overflow_cast-network : goal.overflow_cast-network
overflow_cast-network c =
    let a = c.args in
    let s = c.size-size in
    let l = c.loop-index in
    omega (arith, search-small a.gaps.now a.length s.result l.best l.most l.from l.invariant s.ensures.value c.in-Some.index c.in-Some.ensures _ _ c.bits-ends.result c.cut-low.ensures.low c.cut-low.ensures.high c.bits-ends.ensures c.if-ends-most-ne0.true (omega arith) c.cut-low.ensures.upper_bound c.at_end-end.result c.at_end-end.ensures)

pub returns-then-most-size : goal.returns-then-most-size
returns-then-most-size c =
    let a = c.args in
    let s = c.size-size in
    let l = c.loop-index in
    search-exact a.gaps.now a.length s.result l.best l.most l.from l.invariant s.ensures.value c.in-Some.index c.in-Some.ensures _ _ c.bits-ends.result c.cut-low.ensures.low c.cut-low.ensures.high c.bits-ends.ensures c.if-ends-most-ne0.true (omega arith) c.cut-low.ensures.upper_bound c.at_end-end.result c.at_end-end.ensures c.if-most-size.true

pub loop-index-preserved : goal.loop-index-preserved
loop-index-preserved c =
    let a = c.args in
    let s = c.size-size in
    let l = c.loop-index in
    elim c.if-ends-most-ne0.branch [
      | then-ends-most-ne0+else-most-size w ↦
          rw (w.best-is, w.most-is)
          (search-better a.gaps.now a.length s.result l.best l.most l.from l.invariant s.ensures.value c.in-Some.index c.in-Some.ensures _ _ c.bits-ends.result c.cut-low.ensures.low c.cut-low.ensures.high c.bits-ends.ensures w.if-ends-most-ne0.true (omega arith) c.cut-low.ensures.upper_bound w.at_end-end.result w.at_end-end.ensures)
      | else-ends-most-ne0 w ↦
          rw (w.best-is, w.most-is)
          (search-keep a.gaps.now a.length s.result l.best l.most l.from l.invariant s.ensures.value c.in-Some.index c.in-Some.ensures _ _ c.bits-ends.result c.cut-low.ensures.low c.cut-low.ensures.high c.bits-ends.ensures w.if-ends-most-ne0.false)
    ]

pub returns : goal.returns
returns c =
    let a = c.args in
    let l = c.loop-index in
    search-end a.gaps.now a.length c.size-size.result l.best l.most l.from l.invariant c.size-size.ensures.value c.in_default.ensures
