-- The order of a prefix is the exponent of its size, 32 less its length. How many prefixes of order k one of order h has room for: 2^(h - k) where
-- k ≤ h, and none otherwise.
-- Assumes nothing.
use Prim.Native.Nat.{ℕ, zero, suc, ◌+◌, ◌*◌, ◌^◌, ◌≤◌, ◌<◌}
use mathlib.Core.Path.{◌≡◌, refl, subst}
use native.Mathlib.Nat.{le_of_suc-le-suc, not-suc-le-zero, pow-suc, le_dest, add-zero, add-suc, le_refl}
use mathlib.Core.Logic.{◌⊎◌, inl, inr, ⊎_elim}
use native.Mathlib.Omega.{arith}

abbrev pub wt : ℕ → ℕ → ℕ
wt h zero = 2 ^ h
wt zero (suc k) = 0
wt (suc h) (suc k) = wt h k

pub wt-self : (h : ℕ) → wt h h ≡ 1
wt-self zero = refl
wt-self (suc h) = wt-self h

pub wt-above : (h k : ℕ) → h < k → wt h k ≡ 0
wt-above h zero p = absurd (not-suc-le-zero p)
wt-above zero (suc k) p = refl
wt-above (suc h) (suc k) p = wt-above h k (le_of_suc-le-suc p)

pub wt-dbl : (h k : ℕ) → k ≤ h → wt (suc h) k ≡ wt h k + wt h k
wt-dbl h zero p = omega (arith, pow-suc 2 h)
wt-dbl zero (suc k) p = absurd (not-suc-le-zero p)
wt-dbl (suc h) (suc k) p = wt-dbl h k (le_of_suc-le-suc p)

pub wt-dbl-le : (h k : ℕ) → wt h k + wt h k ≤ wt (suc h) k
wt-dbl-le h zero = omega (arith, pow-suc 2 h)
wt-dbl-le zero (suc k) = omega arith
wt-dbl-le (suc h) (suc k) = wt-dbl-le h k

wt-dbl-cases : (h k : ℕ) → (wt (suc h) k ≡ wt h k + wt h k) ⊎ (wt (suc h) k ≤ 1)
wt-dbl-cases h zero = inl (omega (arith, pow-suc 2 h))
wt-dbl-cases zero (suc zero) = inr (omega arith)
wt-dbl-cases zero (suc (suc k)) = inr (omega arith)
wt-dbl-cases (suc h) (suc k) = wt-dbl-cases h k

-- One of order h has room for `wt h k` of order k, each of which has room for `wt k j` of order j.
wt-pow : (h k : ℕ) → wt h k * 2 ^ k ≤ 2 ^ h
wt-pow h zero = omega arith
wt-pow zero (suc k) = omega arith
wt-pow (suc h) (suc k) = rw (pow-suc 2 h, pow-suc 2 k) (omega (arith, wt-pow h k))

pub wt-mul-le : (h k j : ℕ) → wt h k * wt k j ≤ wt h j
wt-mul-le h k zero = wt-pow h k
wt-mul-le h zero (suc j) = omega arith
wt-mul-le zero (suc k) (suc j) = omega arith
wt-mul-le (suc h) (suc k) (suc j) = wt-mul-le h k j

wt-pow-ge : (h k : ℕ) → k ≤ h → 2 ^ h ≤ wt h k * 2 ^ k
wt-pow-ge h zero p = omega arith
wt-pow-ge zero (suc k) p = absurd (not-suc-le-zero p)
wt-pow-ge (suc h) (suc k) p = rw (pow-suc 2 h, pow-suc 2 k) (omega (arith, wt-pow-ge h k (le_of_suc-le-suc p)))

pub wt-mul-ge : (h k j : ℕ) → j ≤ k → k ≤ h → wt h j ≤ wt h k * wt k j
wt-mul-ge h k zero q p = wt-pow-ge h k p
wt-mul-ge h zero (suc j) q p = absurd (not-suc-le-zero q)
wt-mul-ge zero (suc k) (suc j) q p = absurd (not-suc-le-zero p)
wt-mul-ge (suc h) (suc k) (suc j) q p = wt-mul-ge h k j (le_of_suc-le-suc q) (le_of_suc-le-suc p)

-- `Up j h`: the steps from j up to h.
pub data Up (j : ℕ) : ℕ → Type 0 where
  here : Up j j
  next : {h : ℕ} → Up j h → Up j (suc h)

up-add : (j d : ℕ) → Up j (j + d)
up-add j zero = rw add-zero Up.here
up-add j (suc d) = rw add-suc (Up.next (up-add j d))

pub up : (j h : ℕ) → j ≤ h → Up j h
up j h p = subst (λ (x : ℕ). Up j x) (le_dest p).1 (up-add j (le_dest p).0)

pub up_le : {j h : ℕ} → Up j h → j ≤ h
up_le {j} Up.here = le_refl j
up_le (Up.next p) = omega (arith, up_le p)

-- What is left of a prefix of order h once one of order j is taken out of it: one of each order from j to h - 1, each counted by f.
abbrev pub rest : (f : ℕ → ℕ) {j h : ℕ} → Up j h → ℕ
rest f Up.here = 0
rest f (Up.next {h = h} p) = rest f p + f h

module _ (k : ℕ) where
  pub rest_le : {j h : ℕ} (p : Up j h) → rest (λ x. wt x k) p + wt j k ≤ wt h k
  rest_le {j} Up.here = omega arith
  rest_le {j} (Up.next {h = h} p) = omega (arith, rest_le p, wt-dbl-le h k)

  pub rest-low : {j h : ℕ} (p : Up j h) → k ≤ j → wt h k ≤ rest (λ x. wt x k) p + wt j k
  rest-low Up.here q = omega arith
  rest-low (Up.next {h = h} p) q = omega (arith, rest-low p q, wt-dbl h k (omega (arith, up_le p)))

  pub rest-mid : {j h : ℕ} (p : Up j h) → j < k → wt h k ≤ rest (λ x. wt x k) p + 1
  rest-mid {j} Up.here q = omega (arith, wt-above j k q)
  rest-mid {j} (Up.next {h = h} p) q = ⊎_elim (λ e. omega (arith, rest-mid p q)) (λ e. omega arith) (wt-dbl-cases h k)
