-- How prefixes lie to one another: inside, apart, in a half; and which networks are aligned. Each over every length.
-- Assumes nothing.
use Prim.Native.Nat.{ℕ, ◌+◌, ◌-◌, ◌*◌, ◌^◌, ◌%◌, ◌/◌, ◌≤◌, ◌<◌, ◌∣◌}
use mathlib.Core.Path.{◌≡◌, ap, subst}
use mathlib.Core.Logic.{◌⊎◌, inl, inr}
use mathlib.Core.List.{List}
use native.Mathlib.Nat.{le_refl, le_dest, dvd_of_mod-eq-zero, mod-eq-zero_of_dvd, dvd_trans, dvd-mul_right, dvd-add, div-add-mod', lt_of_mul-lt-mul_right, mul-le-mul_right}
use native.Mathlib.Decide.{dec_lt, dec_le}
use native.Mathlib.Omega.{arith}
use lib.Pow.{pow-lt, pow-add}
use Rattle.lists.specs.Lists.{All}
use Rattle.lists.proofs.ListLaws.{all_map}
use Rattle.prefix.specs.declared.Prefix.{Prefix}
use Rattle.prefix.specs.Prefixes.{size, prefix, end, Aligned, Inside, Apart, lower, upper}
use Rattle.prefix.proofs.PrefixLaws.{size-half, size-positive}

-- The exponent of a prefix's size.
abbrev pub order : Prefix → ℕ
order p = 32 - p.length

pub prefix-path : (a b : Prefix) → a.network ≡ b.network → a.length ≡ b.length → a ≡ b
prefix-path a b p q = λ i. prefix (p i) (q i)

-- inside and apart

pub inside-refl : (a : Prefix) → Inside a a
inside-refl a = (le_refl a.network, le_refl (end a))

pub inside-trans : (a b c : Prefix) → Inside a b → Inside b c → Inside a c
inside-trans a b c i j = omega arith

pub apart-sub : (a x l : Prefix) → Inside a x → Apart x l → Apart a l
apart-sub a x l i (inl h) = inl (omega arith)
apart-sub a x l i (inr h) = inr (omega arith)

pub apart-absurd : (a l : Prefix) → Inside a l → Apart a l → ⊥
apart-absurd a l i (inl h) = omega (arith, size-positive a.length)
apart-absurd a l i (inr h) = omega (arith, size-positive a.length)

pub all-apart-sub : (a x : Prefix) (ls : List Prefix) → Inside a x → All (Apart x) ls → All (Apart a) ls
all-apart-sub a x ls i = all_map (λ l. apart-sub a x l i) ls

pub pow-le : (i j : ℕ) → 2 ^ i ≤ 2 ^ j → i ≤ j
pow-le i j h = go (dec_le i j)
  where
    go : Dec (i ≤ j) → i ≤ j
    go (yes p) = p
    go (no q) = omega (arith, pow-lt {i = j} {j = i} (omega arith))

pub inside-order : (a b : Prefix) → Inside a b → order a ≤ order b
inside-order a b i = pow-le (order a) (order b) (omega arith)

-- A prefix in one as long is that prefix.
pub inside-same-order : (a b : Prefix) → order a ≡ order b → Inside a b → Inside b a
inside-same-order a b e i = omega (arith, ap (λ (o : ℕ). 2 ^ o) e)

-- alignment

dvd-pow : (j h : ℕ) → j ≤ h → 2 ^ j ∣ 2 ^ h
dvd-pow j h p =
    let d = le_dest p in
    subst (λ (x : ℕ). 2 ^ j ∣ 2 ^ x) d.1 (rw pow-add (dvd-mul_right (2 ^ j) (2 ^ d.0)))

pub aligned-down : (n j h : ℕ) → j ≤ h → n % 2 ^ h ≡ 0 → n % 2 ^ j ≡ 0
aligned-down n j h p e = mod-eq-zero_of_dvd (2 ^ j) {n = n} (dvd_trans (2 ^ j) (dvd-pow j h p) (dvd_of_mod-eq-zero (2 ^ h) e))

pub aligned-add : (n m j : ℕ) → n % 2 ^ j ≡ 0 → m % 2 ^ j ≡ 0 → (n + m) % 2 ^ j ≡ 0
aligned-add n m j e f = mod-eq-zero_of_dvd (2 ^ j) {n = n + m} (dvd-add (2 ^ j) (dvd_of_mod-eq-zero (2 ^ j) e) (dvd_of_mod-eq-zero (2 ^ j) f))

pub aligned-pow : (j h : ℕ) → j ≤ h → 2 ^ h % 2 ^ j ≡ 0
aligned-pow j h p = mod-eq-zero_of_dvd (2 ^ j) {n = 2 ^ h} (dvd-pow j h p)

-- The end of an aligned prefix is aligned at every smaller size.
pub aligned-end : (p : Prefix) (j : ℕ) → j ≤ order p → Aligned p → end p % 2 ^ j ≡ 0
aligned-end p j q e = aligned-add p.network (size p.length) j (aligned-down p.network j (order p) q e) (aligned-pow j (order p) q)

pub next_multiple : (s c m : ℕ) → c % s ≡ 0 → m % s ≡ 0 → c < m → c + s ≤ m
next_multiple s c m e f l =
    let p : c / s * s < m / s * s = omega (arith, div-add-mod' c s, div-add-mod' m s) in
    let q : c / s < m / s = lt_of_mul-lt-mul_right s p in
    omega (arith, div-add-mod' c s, div-add-mod' m s, mul-le-mul_right s q)

-- halves

module _ (p : Prefix) (aligned : Aligned p) where
  pub aligned-lower : Aligned (lower p)
  aligned-lower = aligned-down p.network (32 - (p.length + 1)) (order p) (omega arith) aligned

  pub aligned-upper : Aligned (upper p)
  aligned-upper = aligned-add p.network (size (p.length + 1)) (32 - (p.length + 1)) aligned-lower (aligned-pow (32 - (p.length + 1)) (32 - (p.length + 1)) (le_refl _))

  -- An aligned prefix that is smaller than one it lies in lies in one of its halves.
  pub in-half : (b : Prefix) → p.length < 32 → Aligned b → order b < order p → Inside b p → Inside b (lower p) ⊎ Inside b (upper p)
  in-half b short e q i = go (dec_lt b.network (upper p).network)
    where
      go : Dec (b.network < (upper p).network) → Inside b (lower p) ⊎ Inside b (upper p)
      go (yes l) =
          inl (
            i.0,
            next_multiple (size b.length) b.network (upper p).network e
                (aligned-down (upper p).network (order b) (32 - (p.length + 1)) (omega arith) aligned-upper) l,
          )
      go (no l) = inr (omega (arith, size-half p.length short))

-- Of two aligned prefixes the smaller lies in the larger, or they share no address.
pub nested : (a b : Prefix) → Aligned a → Aligned b → order a ≤ order b → Inside a b ⊎ Apart a b
nested a b u v q = go (dec_lt a.network b.network) (dec_lt a.network (end b))
  where
    go : Dec (a.network < b.network) → Dec (a.network < end b) → Inside a b ⊎ Apart a b
    go (yes l) m = inr (inl (next_multiple (size a.length) a.network b.network u (aligned-down b.network (order a) (order b) q v) l))
    go (no l) (yes m) = inl (omega arith, next_multiple (size a.length) a.network (end b) u (aligned-end b (order a) q v) m)
    go (no l) (no m) = inr (inr (omega arith))
