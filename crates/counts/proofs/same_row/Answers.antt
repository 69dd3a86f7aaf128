-- `counts::same_row` meets its contract.
use Prim.Native.Nat.{◌-◌}
use mathlib.Core.Path.{refl}
use native.Mathlib.Omega.{arith}
use Rattle.counts.proofs.CompareLaws.{row_more, row-differs, row_same}
use Rattle.counts.proofs.same_row.Goals as goal

pub returns-then-a-j : goal.returns-then-a-j
returns-then-a-j c =
    let a = c.args in
    let loop = c.loop-j in
    row-differs a.a a.b loop.j (omega arith) (omega arith) c.if-a-j.true loop.invariant

pub loop-j-preserved : goal.loop-j-preserved
loop-j-preserved c =
    let a = c.args in
    let loop = c.loop-j in
    row_more a.a a.b loop.j (omega arith) (omega arith) c.if-a-j.false loop.invariant

pub returns : goal.returns
returns c =
    let a = c.args in
    let loop = c.loop-j in
    row_same a.a a.b loop.j (omega arith) (omega arith) loop.invariant
