-- The lowest bit of a number, and multiples of a power of two by their bits.
-- Assumes nothing.
use Prim.Native.Nat.{ℕ, zero, suc, ◌+◌, ◌-◌, ◌*◌, ◌/◌, ◌%◌, ◌^◌, ◌<◌, min, max}
use mathlib.Core.Path.{◌≡◌, refl, sym, ap, ap₂, ◌∙◌}
use mathlib.Core.Logic.{◌⊎◌, inl, inr, ⊎_elim}
use native.Mathlib.Nat.{le_refl, mod-one, mod-lt, div-add-mod', pow-suc, min-eq_left, min-zero, zero-min, le-max_left, le-max_right, max-le}
use native.Mathlib.Omega.{arith}
use lib.Arith.{bin_ind, digits_div, digits_mod, mod-mul}
use lib.Bits.{bit_and, bit_or, and_step, or_step}
use lib.Pow.{pow_pos}

two : 0 < 2
two = omega arith

-- A remainder by its lowest digit and the others.
digits : (k y : ℕ) → y % 2 ^ suc k ≡ (y / 2 % 2 ^ k) * 2 + y % 2
digits k y = ap (λ (x : ℕ). y % x) (pow-suc 2 k) ∙ mod-mul y (pow_pos k) (omega arith)

even-of : (k y : ℕ) → y % 2 ^ suc k ≡ 0 → (y / 2 % 2 ^ k ≡ 0) × (y % 2 ≡ 0)
even-of k y e = (omega (arith, digits k y), omega (arith, digits k y))

of-even : (k y : ℕ) → y / 2 % 2 ^ k ≡ 0 → y % 2 ≡ 0 → y % 2 ^ suc k ≡ 0
of-even k y e f = omega (arith, digits k y)

-- Where the bits of two numbers together are a multiple, both are.
pub or-multiple : (k a b : ℕ) → bit_or a b % 2 ^ k ≡ 0 → (a % 2 ^ k ≡ 0) × (b % 2 ^ k ≡ 0)
or-multiple zero a b e = (mod-one a, mod-one b)
or-multiple (suc k) a b e =
    let m : ℕ = bit_or (a / 2) (b / 2) in
    let d : ℕ = max (a % 2) (b % 2) in
    let small : d < 2 = omega (arith, max-le {a = a % 2} {b = b % 2} {k = 1} (omega (arith, mod-lt a two)) (omega (arith, mod-lt b two))) in
    let t = even-of k (bit_or a b) e in
    let high : m % 2 ^ k ≡ 0 = ap (λ (x : ℕ). x % 2 ^ k) (sym (ap (λ (x : ℕ). x / 2) (or_step a b) ∙ digits_div m small)) ∙ t.0 in
    let low : d ≡ 0 = sym (ap (λ (x : ℕ). x % 2) (or_step a b) ∙ digits_mod m small) ∙ t.1 in
    let rest = or-multiple k (a / 2) (b / 2) high in (
      of-even k a rest.0 (omega (arith, le-max_left (a % 2) (b % 2))),
      of-even k b rest.1 (omega (arith, le-max_right (a % 2) (b % 2))),
    )

-- And where both are, so are their bits together.
pub multiple-or : (k a b : ℕ) → a % 2 ^ k ≡ 0 → b % 2 ^ k ≡ 0 → bit_or a b % 2 ^ k ≡ 0
multiple-or zero a b e f = mod-one (bit_or a b)
multiple-or (suc k) a b e f =
    let m : ℕ = bit_or (a / 2) (b / 2) in
    let d : ℕ = max (a % 2) (b % 2) in
    let s = even-of k a e in
    let t = even-of k b f in
    let none : d ≡ 0 = omega (arith, max-le {a = a % 2} {b = b % 2} {k = 0} (omega (arith, s.1)) (omega (arith, t.1))) in
    let small : d < 2 = omega arith in
    of-even k (bit_or a b)
    (ap (λ (x : ℕ). x % 2 ^ k) (ap (λ (x : ℕ). x / 2) (or_step a b) ∙ digits_div m small) ∙ multiple-or k (a / 2) (b / 2) s.0 t.0)
    (ap (λ (x : ℕ). x % 2) (or_step a b) ∙ digits_mod m small ∙ none)

and_self : (a : ℕ) → bit_and a a ≡ a
and_self =
    bin_ind (λ (n : ℕ). bit_and n n ≡ n) refl
    (λ n ih. and_step n n ∙ ap₂ (λ (x y : ℕ). x * 2 + y) ih (min-eq_left (le_refl (n % 2))) ∙ div-add-mod' n 2)

-- The lowest bit that is set is what the number has more than its bits in common with the one before it.
pub record Lowest (x : ℕ) : Type 0 where
  pub place : ℕ
  pub value : x - bit_and x (x - 1) ≡ 2 ^ place
  pub multiple : x % 2 ^ place ≡ 0
  pub odd : x % 2 ^ suc place ≡ 0 → ⊥

pub lowest : (x : ℕ) → 0 < x → Lowest x
lowest = bin_ind (λ (n : ℕ). 0 < n → Lowest n) (λ h. absurd (omega arith)) step
  where
    two_ways : (n : ℕ) → n < 2 → (n ≡ 0) ⊎ (n ≡ 1)
    two_ways zero h = inl refl
    two_ways (suc zero) h = inr refl
    two_ways (suc (suc n)) h = absurd (omega arith)

    odd_step : (n : ℕ) → n % 2 ≡ 1 → Lowest n
    odd_step n e =
        let q : ℕ = n / 2 in
        let n-is : q * 2 + 1 ≡ n = ap (λ (r : ℕ). q * 2 + r) (sym e) ∙ div-add-mod' n 2 in
        let less : n - 1 ≡ q * 2 + 0 = omega arith in
        let common : bit_and n (n - 1) ≡ q * 2 =
        and_step n (n - 1)
        ∙ ap₂ (λ (x y : ℕ). bit_and q x * 2 + min (n % 2) y) (ap (λ (x : ℕ). x / 2) less ∙ digits_div q {m = 2} {r = 0} (omega arith)) (ap (λ (x : ℕ). x % 2) less ∙ digits_mod q {m = 2} {r = 0} (omega arith))
        ∙ ap₂ (λ (x y : ℕ). x * 2 + y) (and_self q) (min-zero (n % 2)) ∙ omega arith in
        record { place = 0; value = omega (arith, common); multiple = mod-one n; odd = λ z. omega (arith, e, z) }

    even_step : (n : ℕ) → n % 2 ≡ 0 → 0 < n → Lowest (n / 2) → Lowest n
    even_step n e h low =
        let q : ℕ = n / 2 in
        let n-is : q * 2 + 0 ≡ n = ap (λ (r : ℕ). q * 2 + r) (sym e) ∙ div-add-mod' n 2 in
        let less : n - 1 ≡ (q - 1) * 2 + 1 = omega arith in
        let common : bit_and n (n - 1) ≡ bit_and q (q - 1) * 2 =
        and_step n (n - 1)
        ∙ ap₂ (λ (x y : ℕ). bit_and q x * 2 + min y ((n - 1) % 2)) (ap (λ (x : ℕ). x / 2) less ∙ digits_div (q - 1) {m = 2} {r = 1} (omega arith)) e
        ∙ ap (λ (y : ℕ). bit_and q (q - 1) * 2 + y) (zero-min ((n - 1) % 2)) ∙ omega arith in
        record {
          place = suc low.place;
          value = omega (arith, common, low.value, pow-suc 2 low.place, n-is);
          multiple = of-even low.place n low.multiple e;
          odd = λ z. low.odd (even-of (suc low.place) n z).0;
        }

    step : (n : ℕ) → (0 < n / 2 → Lowest (n / 2)) → 0 < n → Lowest n
    step n ih h =
        ⊎_elim (λ (e : n % 2 ≡ 0). even_step n e h (ih (omega (arith, e, div-add-mod' n 2)))) (odd_step n) (two_ways (n % 2) (mod-lt n two))
