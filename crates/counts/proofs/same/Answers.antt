-- `counts::same` meets its contract.
use Prim.Native.Nat.{◌-◌}
use mathlib.Core.Path.{refl, sym, ◌∙◌}
use native.Mathlib.Omega.{arith}
use Rattle.counts.proofs.CompareLaws.{counts-more, counts-differ, counts_same}
use Rattle.counts.proofs.same.Goals as goal

pub returns-then-not-same_row : goal.returns-then-not-same_row
returns-then-not-same_row c =
    let a = c.args in
    let loop = c.loop-k in
    counts-differ a.a a.b loop.k (omega arith) (omega arith) (sym c.if-not-same_row.true ∙ c.same_row.ensures) loop.invariant

pub loop-k-preserved : goal.loop-k-preserved
loop-k-preserved c =
    let a = c.args in
    let loop = c.loop-k in
    counts-more a.a a.b loop.k (omega arith) (omega arith) (sym c.if-not-same_row.false ∙ c.same_row.ensures) loop.invariant

pub returns : goal.returns
returns c =
    let a = c.args in
    let loop = c.loop-k in
    counts_same a.a a.b loop.k (omega arith) (omega arith) loop.invariant
