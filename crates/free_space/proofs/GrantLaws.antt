-- One grant, over all pools: what it gives, and what it leaves. The asks are counted by their orders.
-- Assumes nothing.
use Prim.Native.Nat.{ℕ, ◌+◌, ◌-◌, ◌*◌, ◌≤◌, ◌<◌}
use mathlib.Core.Path.{◌≡◌, refl, ap}
use mathlib.Core.Logic.{inl, inr, by_cases}
use mathlib.Core.List.{List, [], ◌∷◌}
use mathlib.Core.Option.{Option, none, some}
use native.Mathlib.Nat.{le_refl, lt_of_mul-lt-mul_right}
use native.Mathlib.Decide.{dec_le}
use native.Mathlib.Omega.{arith}
use lib.Pow.{pow_mono}
use Rattle.lists.specs.Lists.{All, Any, Pairwise}
use Rattle.lists.specs.Properties.{OfSome}
use Rattle.lists.proofs.ListLaws.{all_map, any-map, all-map₂, all_append, any_left, any-right, any-all}
use Rattle.prefix.specs.declared.Prefix.{Prefix}
use Rattle.prefix.specs.Prefixes.{prefix, Aligned, Inside, Apart}
use Rattle.prefix.proofs.PrefixLaws.{apart-sym}
use Rattle.prefix.proofs.Nesting.{order, inside-trans, apart-sub, all-apart-sub, inside-order, aligned-down}
use Rattle.free_space.specs.Space.{Free, NotWorse}
use Rattle.free_space.specs.Grant.{walk, wholes, best}
use Rattle.free_space.specs.Serving.{Length, Pools}
use Rattle.free_space.proofs.Weights.{wt, wt-self, wt-above, wt-mul-le, wt-mul-ge, Up, up, rest, rest_le, rest-low, rest-mid}
use Rattle.free_space.proofs.WalkLaws.{Level, sum, sum-append, walk-skip, Listed, walk-listed, walk-covers, Removal, walk-removal}
use Rattle.free_space.proofs.BestLaws.{Best, best-best, best-holds}

-- all pools

-- The walk of a pool.
abbrev pub walk_pool : List Prefix → Prefix → List Prefix
walk_pool leases p = walk leases (32 - p.length) p

pub pool-level : (p : Prefix) → Length p.length → Level (32 - p.length) p
pool-level p l = omega arith

-- What is known of each prefix that is listed.
pub record ChosenWhole (pools leases : List Prefix) (w : Prefix) : Type 0 where
  pub free : Free pools leases w
  pub length : w.length ≤ 32

pub wholes-found : (pools leases : List Prefix) → All (λ p. Length p.length) pools → All Aligned pools → All (ChosenWhole pools leases) (wholes pools leases)
wholes-found [] leases l u = tt
wholes-found (p ∷ ps) leases l u =
    all_append (ChosenWhole (p ∷ ps) leases) (walk_pool leases p) (wholes ps leases)
    (all_map (λ w k. record { free = record { aligned = k.aligned; pooled = inl k.inside; unused = k.unused }; length = k.length })
    (walk_pool leases p) (walk-listed leases (32 - p.length) p (pool-level p l.0) u.0))
    (all_map (λ w k. record { free = record { aligned = k.free.aligned; pooled = inr k.free.pooled; unused = k.free.unused }; length = k.length })
    (wholes ps leases) (wholes-found ps leases l.1 u.1))

pub wholes-cover : (pools leases : List Prefix) (b : Prefix) → All (λ p. Length p.length) pools → All Aligned pools → Aligned b → Any (Inside b) pools → All (Apart b) leases
    → Any (Inside b) (wholes pools leases)
wholes-cover [] leases b l u v i a = absurd i
wholes-cover (p ∷ ps) leases b l u v (inl i) a =
    any_left (Inside b) (walk_pool leases p) (wholes ps leases) (walk-covers leases (32 - p.length) p b (pool-level p l.0) u.0 v i a)
wholes-cover (p ∷ ps) leases b l u v (inr i) a =
    any-right (Inside b) (walk_pool leases p) (wholes ps leases) (wholes-cover ps leases b l.1 u.1 v i a)

wholes-skip : (pools leases : List Prefix) (b : Prefix) → All (λ p. Length p.length) pools → All (Apart b) pools → wholes pools (b ∷ leases) ≡ wholes pools leases
wholes-skip [] leases b l a = refl
wholes-skip (p ∷ ps) leases b l a =
    rw (walk-skip leases b (32 - p.length) p (pool-level p l.0) (apart-sym b p a.0), wholes-skip ps leases b l.1 a.1)

abbrev Removals : List Prefix → List Prefix → Prefix → Type 0
Removals pools leases w = (b : Prefix) → Aligned b → Inside b w → (u : Up (order b) (order w)) (f : ℕ → ℕ)
    → sum f (wholes pools (b ∷ leases)) + f (order w) ≡ sum f (wholes pools leases) + rest f u

removals-first : (p : Prefix) (ps leases : List Prefix) → All (λ x. Length x.length) ps → All (Apart p) ps → (w : Prefix) → Listed leases p w
    → Removal leases (32 - p.length) p w → Removals (p ∷ ps) leases w
removals-first p ps leases l d w k m b v i u f =
    omega (
      arith,
      m b v i u f,
      sum-append f (walk_pool leases p) (wholes ps leases),
      sum-append f (walk_pool (b ∷ leases) p) (wholes ps (b ∷ leases)),
      ap (sum f) (wholes-skip ps leases b l (all-apart-sub b p ps (inside-trans b w p i k.inside) d)),
    )

removals-later : (p : Prefix) (ps leases : List Prefix) → Length p.length → All (Apart p) ps → (w : Prefix) → ChosenWhole ps leases w → Removals ps leases w → Removals (p ∷ ps) leases w
removals-later p ps leases l d w k m b v i u f =
    let t = any-all ps k.free.pooled d in
    omega (
      arith,
      m b v i u f,
      sum-append f (walk_pool leases p) (wholes ps leases),
      sum-append f (walk_pool (b ∷ leases) p) (wholes ps (b ∷ leases)),
      ap (sum f) (walk-skip leases b (32 - p.length) p (pool-level p l) (apart-sym b p (apart-sub b t.0 p (inside-trans b w t.0 i t.1) (apart-sym p t.0 t.2)))),
    )

wholes-removals : (pools leases : List Prefix) → All (λ p. Length p.length) pools → All Aligned pools → Pairwise Apart pools → All (Removals pools leases) (wholes pools leases)
wholes-removals [] leases l u d = tt
wholes-removals (p ∷ ps) leases l u d =
    let v = pool-level p l.0 in
    all_append (Removals (p ∷ ps) leases) (walk_pool leases p) (wholes ps leases)
    (all-map₂ (removals-first p ps leases l.1 d.0) (walk_pool leases p) (walk-listed leases (32 - p.length) p v u.0) (walk-removal leases (32 - p.length) p v u.0))
    (all-map₂ (removals-later p ps leases l.0 d.0) (wholes ps leases) (wholes-found ps leases l.1 u.1) (wholes-removals ps leases l.1 u.1 d.1))

-- How many free prefixes of order k there is room for, and how many of order k a list of asks comes to.
abbrev pub room : List Prefix → List Prefix → ℕ → ℕ
room pools leases k = sum (λ h. wt h k) (wholes pools leases)

abbrev pub load : List ℕ → ℕ → ℕ
load [] k = 0
load (l ∷ ls) k = wt (32 - l) k + load ls k

abbrev pub Fits : List Prefix → List Prefix → List ℕ → Type 0
Fits pools leases ls = (k : ℕ) → load ls k ≤ room pools leases k

load-scale : (ls : List ℕ) (j k : ℕ) → load ls k * wt k j ≤ load ls j
load-scale [] j k = omega arith
load-scale (l ∷ ls) j k = omega (arith, load-scale ls j k, wt-mul-le (32 - l) k j)

room-scale : (ws : List Prefix) (j k m : ℕ) → j ≤ k → k ≤ m → All (λ w. j ≤ order w → m ≤ order w) ws
    → sum (λ h. wt h j) ws ≤ sum (λ h. wt h k) ws * wt k j
room-scale [] j k m p q a = omega arith
room-scale (w ∷ ws) j k m p q a =
    by_cases (dec_le j (order w))
    (λ l. let l' = a.0 l in omega (arith, room-scale ws j k m p q a.1, wt-mul-ge (order w) k j p (omega arith)))
    (λ l. omega (arith, room-scale ws j k m p q a.1, wt-above (order w) j (omega arith)))

room-none : (ws : List Prefix) (j : ℕ) → All (λ w. order w < j) ws → sum (λ h. wt h j) ws ≡ 0
room-none [] j a = refl
room-none (w ∷ ws) j a = omega (arith, wt-above (order w) j a.0, room-none ws j a.1)

-- A prefix of at least an order is one of at most its length.
enough : (l : ℕ) (w : Prefix) → w.length ≤ 32 → 32 - l ≤ order w → w.length ≤ l
enough l w a b = omega arith

not-larger : (w v : Prefix) → NotWorse w v → order w ≤ order v
not-larger w v (inl a) = omega arith
not-larger w v (inr a) = omega arith

module _ (pools : List Prefix) (good : Pools pools) where
  pub found : (leases : List Prefix) → All (ChosenWhole pools leases) (wholes pools leases)
  found leases = wholes-found pools leases good.lengths good.aligned

  pub cover : (leases : List Prefix) (b : Prefix) → Free pools leases b → Any (Inside b) (wholes pools leases)
  cover leases b a = wholes-cover pools leases b good.lengths good.aligned a.aligned a.pooled a.unused

  removals : (leases : List Prefix) → All (Removals pools leases) (wholes pools leases)
  removals leases = wholes-removals pools leases good.lengths good.aligned good.disjoint

  -- Any free prefix that is taken costs at least its share.
  pub takes : (leases : List Prefix) (b : Prefix) → Free pools leases b → (k : ℕ) → room pools (b ∷ leases) k + wt (order b) k ≤ room pools leases k
  takes leases b a k =
      let t = any-all (wholes pools leases) (cover leases b a) (removals leases) in
      let u = up (order b) (order t.0) (inside-order b t.0 t.1) in
      omega (arith, t.2 b a.aligned t.1 u (λ h. wt h k), rest_le k u)

  -- The lowest part of a free prefix is free.
  lowest-inside : (w : Prefix) (l : ℕ) → w.length ≤ l → Inside (prefix w.network l) w
  lowest-inside w l q = (le_refl w.network, omega (arith, pow_mono {i = 32 - l} {j = order w} (omega arith)))

  pub free-inside : (leases : List Prefix) (x y : Prefix) → Free pools leases y → Aligned x → Inside x y → Free pools leases x
  free-inside leases x y a u i = record {
    aligned = u;
    pooled = any-map (λ p. inside-trans x y p i) pools a.pooled;
    unused = all-apart-sub x y leases i a.unused;
  }

  pub lowest-free : (leases : List Prefix) (w : Prefix) (l : ℕ) → Free pools leases w → w.length ≤ l → Free pools leases (prefix w.network l)
  lowest-free leases w l a q =
      free-inside leases (prefix w.network l) w a (aligned-down w.network (32 - l) (order w) (omega arith) a.aligned) (lowest-inside w l q)

  -- The best fit, whose lowest part is granted, keeps what is left of the asks in bounds.
  fits-step : (leases : List Prefix) (l : ℕ) (ls : List ℕ) (w : Prefix) → Fits pools leases (l ∷ ls) → Free pools leases w → w.length ≤ l
      → Removals pools leases w → All (λ v. 32 - l ≤ order v → order w ≤ order v) (wholes pools leases) → Fits pools (prefix w.network l ∷ leases) ls
  fits-step leases l ls w fit a q m least k =
      let b : Prefix = prefix w.network l in
      let j : ℕ = 32 - l in
      let u = up j (order w) (omega arith) in
      let e = m b (lowest-free leases w l a q).aligned (lowest-inside w l q) u (λ h. wt h k) in
      by_cases (dec_le k j)
      (λ x. omega (arith, e, fit k, rest-low k u x))
      (λ x. by_cases (dec_le k (order w))
      (λ r.
      let s = room-scale (wholes pools leases) j k (order w) (omega arith) r least in
      let c : load ls k < room pools leases k = lt_of_mul-lt-mul_right (wt k j) (omega (arith, fit j, wt-self j, load-scale ls j k)) in
      omega (arith, e, rest-mid k u (omega arith)))
      (λ r. omega (arith, e, fit k, wt-above (order w) k (omega arith))))

  -- An ask that fits is granted; what is granted is free, and what is left still fits.
  abbrev pub Granted : List Prefix → ℕ → List ℕ → Option Prefix → Type 0
  Granted leases l ls o = (w : Prefix) × (o ≡ some w) × Free pools leases (prefix w.network l) × Fits pools (prefix w.network l ∷ leases) ls

  pub granted : (leases : List Prefix) (l : ℕ) (ls : List ℕ) → Fits pools leases (l ∷ ls) → Granted leases l ls (best l (wholes pools leases))
  granted leases l ls fit =
      go (best l (wholes pools leases)) (best-best l (wholes pools leases)) (best-holds (ChosenWhole pools leases) l (wholes pools leases) (found leases))
      (best-holds (Removals pools leases) l (wholes pools leases) (removals leases))
    where
      go : (o : Option Prefix) → Best l (wholes pools leases) o → OfSome (ChosenWhole pools leases) o → OfSome (Removals pools leases) o → Granted leases l ls o
      go none b a m =
          absurd (omega (arith, fit (32 - l), wt-self (32 - l), room-none (wholes pools leases) (32 - l) (all-map₂ (λ w f k. smaller w f k.length) (wholes pools leases) b (found leases))))
        where
          smaller : (w : Prefix) → l < w.length → w.length ≤ 32 → order w < 32 - l
          smaller w f k = omega arith
      go (some w) b a m = (
        w,
        refl,
        lowest-free leases w l a.free b.0,
        fits-step leases l ls w fit a.free b.0 m
            (all-map₂ (λ v k f x. not-larger w v (k (enough l v f.length x))) (wholes pools leases) b.1 (found leases)),
      )
