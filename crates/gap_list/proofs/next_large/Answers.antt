-- `next_large` meets its contract: the gaps before i have nothing of the size.
use Prim.Native.Nat.{◌+◌}
use native.Mathlib.Omega.{arith}
use Rattle.gap_list.specs.InnerSearch.{PassedTo}
use Rattle.gap_list.proofs.SearchLaws.{passed-none, passed-next}
use Rattle.gap_list.proofs.next_large.Goals as goal

pub loop-i-init : goal.loop-i-init
loop-i-init c = (c.requires.1, passed-none c.args.gaps.now c.args.mask c.args.from)

pub returns-then-holds-2 : goal.returns-then-holds-2
returns-then-holds-2 c =
    let a = c.args in
    let i = c.loop-i.i in
    (omega arith, passed-next a.gaps.now a.mask a.from i (i + 1) (omega arith) (omega arith) (c.holds.ensures c.if-holds.false) c.loop-i.invariant.1)

pub returns-then-holds-3 : goal.returns-then-holds-3
returns-then-holds-3 c =
    let a = c.args in
    let i = c.loop-i.i in
    let p1 = passed-next a.gaps.now a.mask a.from i (i + 1) (omega arith) (omega arith) (c.holds.ensures c.if-holds.false) c.loop-i.invariant.1 in
    (omega arith, passed-next a.gaps.now a.mask a.from (i + 1) (i + 2) (omega arith) (omega arith) (c.holds-in-loop-i.ensures c.if-holds-2.false) p1)

pub returns-then-holds-4 : goal.returns-then-holds-4
returns-then-holds-4 c =
    let a = c.args in
    let i = c.loop-i.i in
    let p1 = passed-next a.gaps.now a.mask a.from i (i + 1) (omega arith) (omega arith) (c.holds.ensures c.if-holds.false) c.loop-i.invariant.1 in
    let p2 = passed-next a.gaps.now a.mask a.from (i + 1) (i + 2) (omega arith) (omega arith) (c.holds-in-loop-i.ensures c.if-holds-2.false) p1 in
    (omega arith, passed-next a.gaps.now a.mask a.from (i + 2) (i + 3) (omega arith) (omega arith) (c.holds-in-loop-i-2.ensures c.if-holds-3.false) p2)

pub loop-i-preserved : goal.loop-i-preserved
loop-i-preserved c =
    let a = c.args in
    let i = c.loop-i.i in
    let p1 = passed-next a.gaps.now a.mask a.from i (i + 1) (omega arith) (omega arith) (c.holds.ensures c.if-holds.false) c.loop-i.invariant.1 in
    let p2 = passed-next a.gaps.now a.mask a.from (i + 1) (i + 2) (omega arith) (omega arith) (c.holds-in-loop-i.ensures c.if-holds-2.false) p1 in
    let p3 = passed-next a.gaps.now a.mask a.from (i + 2) (i + 3) (omega arith) (omega arith) (c.holds-in-loop-i-2.ensures c.if-holds-3.false) p2 in
    (omega arith, passed-next a.gaps.now a.mask a.from (i + 3) (i + 4) (omega arith) (omega arith) (c.holds-in-loop-i-3.ensures c.if-holds-4.false) p3)

pub loop-k-preserved : goal.loop-k-preserved
loop-k-preserved c =
    let a = c.args in
    let k = c.loop-k.k in
    (omega arith, passed-next a.gaps.now a.mask a.from k (k + 1) (omega arith) (omega arith) (c.holds-in-loop-k.ensures c.if-holds-5.false) c.loop-k.invariant.1)
