-- `text::width` meets its contract: a number below ten to the power of the digits tried has so many.
use Prim.Native.Nat.{ℕ, ◌+◌, ◌-◌, ◌^◌, ◌≤◌}
use mathlib.Core.Path.{◌≡◌, refl, ap}
use native.Mathlib.Nat.{pow-le-pow_right}
use native.Mathlib.Omega.{arith}
use Rattle.text.proofs.TextLaws.{next-power}
use Rattle.text.proofs.width.Goals as goal

pub loop-size-init : goal.loop-size-init
loop-size-init c = (refl, omega arith)

pub overflow_mul-power : goal.overflow_mul-power
overflow_mul-power c =
    let l = c.loop-size in
    let most : 10 ^ (l.size - 1) ≤ 10 ^ 18 = pow-le-pow_right {n = 10} (omega arith) {i = l.size - 1} {j = 18} (omega arith) in
    omega (arith, most, l.invariant.0)

pub returns-then-n-power : goal.returns-then-n-power
returns-then-n-power c =
    let l = c.loop-size in
    (omega arith, omega (arith, next-power l.size (omega arith), l.invariant.0), l.invariant.1)

pub loop-size-preserved : goal.loop-size-preserved
loop-size-preserved c =
    let l = c.loop-size in
    let power = next-power l.size (omega arith) in
    let next : l.size + 1 - 1 ≡ l.size = omega arith in
    let same : 10 ^ (l.size + 1 - 1) ≡ 10 ^ l.size = ap (λ (m : ℕ). 10 ^ m) next in
    (omega (arith, power, same, l.invariant.0), omega (arith, power, same, l.invariant.0))

pub returns : goal.returns
returns c =
    let l = c.loop-size in
    let last : l.size - 1 ≡ 19 = omega arith in
    (omega arith, omega arith, omega (arith, l.invariant.1, ap (λ (m : ℕ). 10 ^ m) last))
