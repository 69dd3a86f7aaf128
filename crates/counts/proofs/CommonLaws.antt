-- The bits that two networks in the halves of a prefix have in common.
-- Assumes nothing.
use Prim.Native.Nat.{ℕ, suc, ◌+◌, ◌-◌, ◌*◌, ◌/◌, ◌%◌, ◌^◌, ◌≤◌, ◌<◌}
use mathlib.Core.Path.{◌≡◌, sym, ap, ap₂, subst, ◌∙◌}
use native.Mathlib.Nat.{pow-suc, div-add-mod'}
use native.Mathlib.Omega.{arith}
use lib.Bits.{bit_xor, differ, xor_step, xor_self, xor_block, xor_lt}
use lib.Count.{leading_unique}
use Rattle.prefix.specs.declared.Prefix.{Prefix}
use Rattle.prefix.specs.Prefixes.{Aligned, In, lower, upper}
use Rattle.counts.specs.InnerLevels.{common_bits}

odd_even : (q : ℕ) → bit_xor (q * 2) (q * 2 + 1) ≡ 1
odd_even q =
    let h₀ : q * 2 / 2 ≡ q = omega arith in
    let h₁ : (q * 2 + 1) / 2 ≡ q = omega arith in
    let r₀ : q * 2 % 2 ≡ 0 = omega arith in
    let r₁ : (q * 2 + 1) % 2 ≡ 1 = omega arith in
    xor_step (q * 2) (q * 2 + 1)
    ∙ ap₂ (λ (x y : ℕ). x * 2 + y) (ap₂ bit_xor h₀ h₁ ∙ xor_self q) (ap₂ differ r₀ r₁)

-- Two numbers of which one lies in the lower and one in the upper half of a block of 2 ^ (k + 1): they differ in bit k, and in none above it.
halves-differ : (k n a b : ℕ) → n % 2 ^ suc k ≡ 0 → n ≤ a → a < n + 2 ^ k → n + 2 ^ k ≤ b → b < n + 2 ^ k + 2 ^ k → (2 ^ k ≤ bit_xor a b) × (bit_xor a b < 2 ^ suc k)
halves-differ k n a b e la ha lb hb =
    let q : ℕ = n / 2 ^ suc k in
    let two : 2 ^ suc k ≡ 2 ^ k * 2 = pow-suc 2 k in
    let whole : n ≡ q * 2 * 2 ^ k = omega (arith, div-add-mod' n (2 ^ suc k), ap (λ (m : ℕ). q * m) two) in
    let ea : a ≡ q * 2 * 2 ^ k + (a - n) = omega (arith, whole) in
    let eb : b ≡ (q * 2 + 1) * 2 ^ k + (b - (n + 2 ^ k)) = omega (arith, whole) in
    let r : a - n < 2 ^ k = omega arith in
    let s : b - (n + 2 ^ k) < 2 ^ k = omega arith in
    let x : bit_xor a b ≡ 1 * 2 ^ k + bit_xor (a - n) (b - (n + 2 ^ k)) =
    ap₂ bit_xor ea eb ∙ xor_block k (q * 2) (q * 2 + 1) (a - n) (b - (n + 2 ^ k)) r s
    ∙ ap (λ (m : ℕ). m * 2 ^ k + bit_xor (a - n) (b - (n + 2 ^ k))) (odd_even q) in
    let low : bit_xor (a - n) (b - (n + 2 ^ k)) < 2 ^ k = xor_lt k (a - n) (b - (n + 2 ^ k)) r s in
    (omega (arith, x), omega (arith, x, low, two))

pub common-halves : (p : Prefix) (a b : ℕ) → p.length < 32 → Aligned p → In a (lower p) → In b (upper p) → common_bits a b ≡ p.length
unfolding common_bits
common-halves p a b short aligned la lb =
    let k : ℕ = 32 - (p.length + 1) in
    let e : 32 - p.length ≡ suc k = omega arith in
    let h = halves-differ k p.network a b (subst (λ (m : ℕ). p.network % 2 ^ m ≡ 0) e aligned) la.0 la.1 lb.0 lb.1 in
    sym (leading_unique 32 (bit_xor a b) p.length (suc k) (omega arith) h.1 (omega (arith, h.0, pow-suc 2 k)))
