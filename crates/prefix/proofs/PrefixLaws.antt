-- Laws of prefixes, each over every length: what the tests decide, and that they speak of addresses.
-- Assumes nothing.
use Prim.Native.Nat.{ℕ, suc, ◌+◌, ◌-◌, ◌^◌, ◌≤◌, ◌<◌}
use mathlib.Core.Path.{◌≡◌, refl, ap, ◌∙◌}
use mathlib.Core.Logic.{◌↔◌, inl, inr, ⊎_elim}
use mathlib.Core.Bool.{true, false}
use native.Mathlib.Nat.{le_refl, pow-suc}
use native.Mathlib.Decide.{dec_le}
use native.Mathlib.Omega.{arith}
use lib.Dec.{leb}
use lib.Pow.{pow_pos}
use borrow.Author.Tests.{leb-true, le-leb, eqb-true, eq-eqb}
use Rattle.lists.proofs.Tests.{and-to, and-of, or-to, or_left, or_right, not-true⇒false}
use Rattle.prefix.specs.declared.Prefix.{Prefix}
use Rattle.prefix.specs.Prefixes.{size, end, Aligned, aligned?, Inside, inside?, Apart, apart?, lower, upper, In}

pub size-positive : (l : ℕ) → 0 < size l
size-positive l = pow_pos (32 - l)

-- A prefix has twice the addresses of one that is longer by 1.
pub size-half : (l : ℕ) → l < 32 → size l ≡ size (l + 1) + size (l + 1)
size-half l h =
    let e : 32 - l ≡ suc (32 - (l + 1)) = omega arith in
    ap (λ (x : ℕ). 2 ^ x) e ∙ omega (arith, pow-suc 2 (32 - (l + 1)))

pub aligned-to : (p : Prefix) → aligned? p ≡ true → Aligned p
aligned-to p e = eqb-true _ _ e

pub aligned-of : (p : Prefix) → Aligned p → aligned? p ≡ true
aligned-of p e = eq-eqb _ _ e

pub inside-to : (a b : Prefix) → inside? a b ≡ true → Inside a b
inside-to a b e =
    let t = and-to (leb b.network a.network) (leb (end a) (end b)) e in
    (leb-true _ _ t.0, leb-true _ _ t.1)

pub inside_of : (a b : Prefix) → Inside a b → inside? a b ≡ true
inside_of a b h = and-of _ _ (le-leb _ _ h.0) (le-leb _ _ h.1)

pub inside-not : (a b : Prefix) → (Inside a b → ⊥) → inside? a b ≡ false
inside-not a b h = not-true⇒false (inside? a b) (λ e. h (inside-to a b e))

pub apart-to : (a b : Prefix) → apart? a b ≡ true → Apart a b
apart-to a b e = ⊎_elim (λ t. inl (leb-true _ _ t)) (λ t. inr (leb-true _ _ t)) (or-to (leb (end a) b.network) (leb (end b) a.network) e)

pub apart_of : (a b : Prefix) → Apart a b → apart? a b ≡ true
apart_of a b (inl h) = or_left _ _ (le-leb _ _ h)
apart_of a b (inr h) = or_right (leb (end a) b.network) _ (le-leb _ _ h)

pub apart-not : (a b : Prefix) → (Apart a b → ⊥) → apart? a b ≡ false
apart-not a b h = not-true⇒false (apart? a b) (λ e. h (apart-to a b e))

pub apart-sym : (a b : Prefix) → Apart a b → Apart b a
apart-sym a b (inl h) = inr h
apart-sym a b (inr h) = inl h

-- What the relations say of addresses.

pub Apart⇔no-shared-address : (a b : Prefix) → Apart a b ↔ ((x : ℕ) → In x a → In x b → ⊥)
Apart⇔no-shared-address a b = (to, from)
  where
    to : Apart a b → (x : ℕ) → In x a → In x b → ⊥
    to (inl h) x i j = omega arith
    to (inr h) x i j = omega arith

    later : Dec (a.network ≤ b.network) → ((x : ℕ) → In x a → In x b → ⊥) → Dec (end a ≤ b.network) → Dec (end b ≤ a.network) → Apart a b
    later d f (yes h) e = inl h
    later d f (no h) (yes k) = inr k
    later (yes d) f (no h) (no k) = absurd (f b.network (d, omega arith) (le_refl b.network, omega (arith, size-positive b.length)))
    later (no d) f (no h) (no k) = absurd (f a.network (le_refl a.network, omega (arith, size-positive a.length)) (omega arith, omega arith))

    from : ((x : ℕ) → In x a → In x b → ⊥) → Apart a b
    from f = later (dec_le a.network b.network) f (dec_le (end a) b.network) (dec_le (end b) a.network)

pub Inside⇔addresses : (a b : Prefix) → Inside a b ↔ ((x : ℕ) → In x a → In x b)
Inside⇔addresses a b = ((λ h x i. omega arith), from)
  where
    from : ((x : ℕ) → In x a → In x b) → Inside a b
    from f =
        let p = f a.network (le_refl a.network, omega (arith, size-positive a.length)) in
        let q = f (end a - 1) (omega (arith, size-positive a.length), omega (arith, size-positive a.length)) in
        (p.0, omega (arith, q.1, size-positive a.length))

-- The halves lie inside, the lower before the upper, and make up the whole.
module _ (p : Prefix) (shorter : p.length < 32) where
  pub lower-inside : Inside (lower p) p
  lower-inside = (le_refl p.network, omega (arith, size-half p.length shorter))

  pub upper-inside : Inside (upper p) p
  upper-inside = omega (arith, size-half p.length shorter)

  pub halves-meet : end (lower p) ≡ (upper p).network
  halves-meet = refl

  pub upper-end : end (upper p) ≡ end p
  upper-end = omega (arith, size-half p.length shorter)
