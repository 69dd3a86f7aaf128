-- The whole free prefixes of some pools go only by the leases inside them: the other leases of a sound table are apart from all of these pools.
-- Assumes nothing.
use Prim.Native.Nat.{ℕ, zero, suc, ◌-◌}
use mathlib.Core.Path.{◌≡◌, refl, sym, ap, ap₂, ◌∙◌}
use mathlib.Core.Logic.{◌⊎◌, inl, inr, ⊎_elim}
use mathlib.Core.Bool.{Bool, true, false, true≢false, ◌&&◌, ◌||◌}
use mathlib.Core.List.{List, [], ◌∷◌, ◌++◌}
use native.Mathlib.Omega.{arith}
use Rattle.lists.specs.Lists.{All, Any, Pairwise, any?, filter}
use Rattle.lists.proofs.Tests.{bool_cases, any?-of}
use Rattle.lists.proofs.FilterLaws.{filter-yes, filter-no}
use Rattle.lists.proofs.ListLaws.{all_map, any-all}
use Rattle.prefix.specs.declared.Prefix.{Prefix}
use Rattle.prefix.specs.Prefixes.{Inside, inside?, Apart, apart?, lower, upper}
use Rattle.prefix.proofs.PrefixLaws.{inside_of, inside-not, apart_of, apart-sym, lower-inside, upper-inside}
use Rattle.prefix.proofs.Nesting.{apart-sub, apart-absurd}
use Rattle.free_space.specs.Space.{unused?}
use Rattle.free_space.specs.Grant.{covered?, walk, wholes, best, lowest_part, grant}
use Rattle.free_space.specs.Serving.{Length, Pools}
use Rattle.free_space.proofs.WalkLaws.{Level, short}
use Rattle.free_space.proofs.GrantLaws.{pool-level}

-- LEASES THAT FAIL A TEST ARE APART

-- The leases that fail the test are apart from p.
abbrev Dropped : (Prefix → Bool) → Prefix → List Prefix → Type 0
Dropped f p leases = All (λ x. f x ≡ false → Apart p x) leases

unused-kept : (f : Prefix → Bool) (p : Prefix) (leases : List Prefix) → Dropped f p leases → unused? leases p ≡ unused? (filter f leases) p
unused-kept f p [] a = refl
unused-kept f p (x ∷ xs) a =
    ⊎_elim
    (λ (e : f x ≡ true). ap (λ (b : Bool). apart? p x && b) (unused-kept f p xs a.1) ∙ ap (λ (l : List Prefix). unused? l p) (sym (filter-yes f x xs e)))
    (λ (e : f x ≡ false).
    ap (λ (b : Bool). b && unused? xs p) (apart_of p x (a.0 e)) ∙ unused-kept f p xs a.1 ∙ ap (λ (l : List Prefix). unused? l p) (sym (filter-no f x xs e)))
    (bool_cases (f x))

covered-kept : (f : Prefix → Bool) (p : Prefix) (leases : List Prefix) → Dropped f p leases → covered? leases p ≡ covered? (filter f leases) p
covered-kept f p [] a = refl
covered-kept f p (x ∷ xs) a =
    ⊎_elim
    (λ (e : f x ≡ true). ap (λ (b : Bool). inside? p x || b) (covered-kept f p xs a.1) ∙ ap (λ (l : List Prefix). covered? l p) (sym (filter-yes f x xs e)))
    (λ (e : f x ≡ false).
    ap (λ (b : Bool). b || covered? xs p) (inside-not p x (λ i. apart-absurd p x i (a.0 e))) ∙ covered-kept f p xs a.1 ∙ ap (λ (l : List Prefix). covered? l p) (sym (filter-no f x xs e)))
    (bool_cases (f x))

dropped-sub : (f : Prefix → Bool) (a p : Prefix) (leases : List Prefix) → Inside a p → Dropped f p leases → Dropped f a leases
dropped-sub f a p leases i = all_map (λ x k e. apart-sub a p x i (k e)) leases

pub walk_kept : (f : Prefix → Bool) (leases : List Prefix) (h : ℕ) (p : Prefix) → Level h p → Dropped f p leases → walk leases h p ≡ walk (filter f leases) h p
walk_kept f leases zero p v a = rw (unused-kept f p leases a, covered-kept f p leases a)
walk_kept f leases (suc h) p v a =
    rw (
      unused-kept f p leases a,
      covered-kept f p leases a,
      walk_kept f leases h (lower p) (omega arith) (dropped-sub f (lower p) p leases (lower-inside p (short h p v)) a),
      walk_kept f leases h (upper p) (omega arith) (dropped-sub f (upper p) p leases (upper-inside p (short h p v)) a),
    )

pub wholes-kept : (f : Prefix → Bool) (leases pools : List Prefix) → All (λ p. Length p.length) pools → All (λ x. f x ≡ false → All (Apart x) pools) leases
    → wholes pools leases ≡ wholes pools (filter f leases)
wholes-kept f leases [] l a = refl
wholes-kept f leases (p ∷ ps) l a =
    ap₂ (λ (xs ys : List Prefix). xs ++ ys)
    (walk_kept f leases (32 - p.length) p (pool-level p l.0) (all_map (λ x k e. apart-sym x p (k e).0) leases a))
    (wholes-kept f leases ps l.1 (all_map (λ x k e. (k e).1) leases a))

-- LEASES INSIDE THE GROUND OR APART FROM IT

-- Inside one of the pools, or apart from all of them.
abbrev pub InOrOut : List Prefix → Prefix → Type 0
InOrOut area x = Any (Inside x) area ⊎ All (Apart x) area

-- The leases inside one of the pools.
abbrev pub within : List Prefix → List Prefix → List Prefix
within area leases = filter (λ x. any? (inside? x) area) leases

out : (area : List Prefix) (x : Prefix) → InOrOut area x → any? (inside? x) area ≡ false → All (Apart x) area
out area x (inl i) e = absurd (true≢false (sym (any?-of (inside? x) (inside_of x) area i) ∙ e))
out area x (inr a) e = a

module _ (area leases : List Prefix) (lengths : All (λ p. Length p.length) area) (parted : All (InOrOut area) leases) where
  pub wholes-within : wholes area leases ≡ wholes area (within area leases)
  wholes-within = wholes-kept (λ x. any? (inside? x) area) leases area lengths (all_map (out area) leases parted)

  pub grant-within : (l : ℕ) → grant area leases l ≡ grant area (within area leases) l
  grant-within l = ap (λ (ws : List Prefix). lowest_part l (best l ws)) wholes-within

-- PART OF THE POOLS OF A SOUND TABLE

-- What is inside one of some pools, no two of which share an address, is inside or apart from each.
in-or-out-each : (pools : List Prefix) (x : Prefix) → Pairwise Apart pools → Any (Inside x) pools → All (λ p. Inside x p ⊎ Apart x p) pools
in-or-out-each [] x d i = elim i [ ]
in-or-out-each (p ∷ ps) x d (inl i) = (inl i, all_map (λ q a. inr (apart-sub x p q i a)) ps d.0)
in-or-out-each (p ∷ ps) x d (inr i) =
    let t = any-all ps i d.0 in
    (inr (apart-sub x t.0 p t.1 (apart-sym p t.0 t.2)), in-or-out-each ps x d.1 i)

in-or-out : (area : List Prefix) (x : Prefix) → All (λ p. Inside x p ⊎ Apart x p) area → InOrOut area x
in-or-out [] x a = inr tt
in-or-out (p ∷ ps) x a = go a.0 (in-or-out ps x a.1)
  where
    go : Inside x p ⊎ Apart x p → InOrOut ps x → InOrOut (p ∷ ps) x
    go (inl i) r = inl (inl i)
    go (inr o) (inl i) = inl (inr i)
    go (inr o) (inr os) = inr (o, os)

-- `part`: what holds of all pools holds of all of the ground.
pub parted-part : (pools area leases : List Prefix) → Pairwise Apart pools → ((P : Prefix → Type 0) → All P pools → All P area)
    → All (λ x. Any (Inside x) pools) leases → All (InOrOut area) leases
parted-part pools area leases d part pooled =
    all_map (λ x i. in-or-out area x (part (λ p. Inside x p ⊎ Apart x p) (in-or-out-each pools x d i))) leases pooled

module _ (pools area leases : List Prefix) (good : Pools pools) (part : (P : Prefix → Type 0) → All P pools → All P area) (pooled : All (λ x. Any (Inside x) pools) leases) where
  pub wholes-part : wholes area leases ≡ wholes area (within area leases)
  wholes-part = wholes-within area leases (part (λ p. Length p.length) good.lengths) (parted-part pools area leases good.disjoint part pooled)

  pub grant-part : (l : ℕ) → grant area leases l ≡ grant area (within area leases) l
  grant-part = grant-within area leases (part (λ p. Length p.length) good.lengths) (parted-part pools area leases good.disjoint part pooled)
