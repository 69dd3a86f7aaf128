-- `prefix::size` meets its contract.
use Prim.Native.Nat.{ℕ, ◌+◌, ◌-◌, ◌/◌, ◌^◌, ◌≤◌}
use mathlib.Core.Path.{◌≡◌, ap, ◌∙◌}
use native.Mathlib.Omega.{arith}
use lib.Dec.{lit≤}
use lib.Pow.{pow-add, shl-shr, shr_le}
use Rattle.prefix.proofs.size.Goals as goal

pub returns-then-length-gt32 : goal.returns-then-length-gt32
returns-then-length-gt32 c = let e : 0 ≡ 32 - c.args.length = omega (arith, c.if-length-gt32.true) in record { value = ap (λ (x : ℕ). 2 ^ x) e; upper_bound = lit≤ tt }

-- All addresses, halved l times.
halved : (l : ℕ) → l ≤ 32 → 4294967296 / 2 ^ l ≡ 2 ^ (32 - l)
halved l h =
    let e : 32 ≡ 32 - l + l = omega arith in
    ap (λ (n : ℕ). n / 2 ^ l) (ap (λ (x : ℕ). 2 ^ x) e ∙ pow-add 2 (32 - l) l) ∙ shl-shr (2 ^ (32 - l)) l

pub returns : goal.returns
returns c = let l : ℕ = c.args.length in record { value = halved l c.if-length-gt32.false; upper_bound = shr_le 4294967296 l }
