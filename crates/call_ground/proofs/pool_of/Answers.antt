-- `pool_of` meets its contract: no pool before the k-th contains the address.
use Prim.Native.Nat.{ℕ}
use mathlib.Core.Path.{◌≡◌, sym, ap, subst, ◌∙◌}
use native.Mathlib.Omega.{arith}
use Rattle.call_ground.specs.Ground.{in_pool?}
use Rattle.call_ground.proofs.PoolLaws.{NoneBefore, none_first, none_more, pool-of, pool-of-none}
use Rattle.call_ground.proofs.pool_of.Goals as goal

pub loop-k-init : goal.loop-k-init
loop-k-init c = let a = c.args in none_first a.image.now a.address

pub returns-then-contains : goal.returns-then-contains
returns-then-contains c =
    let loop = c.loop-k in
    let a = c.args in
    let here = ap (in_pool? a.address) (sym c.pool_at.ensures) ∙ sym c.contains.ensures ∙ c.if-contains.true in
    pool-of a.image.now a.pools a.address loop.k (omega arith) loop.invariant here

pub loop-k-preserved : goal.loop-k-preserved
loop-k-preserved c =
    let loop = c.loop-k in
    let a = c.args in
    let other = ap (in_pool? a.address) (sym c.pool_at.ensures) ∙ sym c.contains.ensures ∙ c.if-contains.false in
    none_more a.image.now a.address loop.k loop.invariant other

pub returns : goal.returns
returns c =
    let loop = c.loop-k in
    let a = c.args in
    let all : loop.k ≡ a.pools = omega arith in
    pool-of-none a.image.now a.pools a.address (subst (λ (n : ℕ). NoneBefore a.image.now a.address n) all loop.invariant)
