-- The functions that compute mean what document 01's sentences say.
-- Assumes nothing.
use Prim.Native.Nat.{ℕ, zero, suc, ◌+◌, ◌-◌, ◌*◌, ◌^◌, ◌%◌, ◌/◌, ◌≤◌, ◌<◌}
use mathlib.Core.Path.{◌≡◌, refl, sym, ap, subst, ◌∙◌}
use mathlib.Core.Logic.{◌⊎◌, ◌↔◌, inl, inr, ⊎_elim, by_cases}
use mathlib.Core.Bool.{Bool, true, false, true≢false}
use mathlib.Core.List.{List, [], ◌∷◌, ◌++◌}
use mathlib.Core.Option.{Option, none, some, none-ne-some}
use native.Mathlib.Nat.{mul-mod_left, div-add-mod', div-mul-le_self, lt-div-mul-add}
use native.Mathlib.Decide.{dec_le}
use native.Mathlib.Omega.{arith}
use lib.Arith.{digits_div}
use Rattle.lists.specs.Lists.{All, Any, Pairwise}
use Rattle.lists.specs.Properties.{OfSome}
use Rattle.lists.proofs.ListLaws.{all_map, all-map₂, any-map₂, all_append, any-all, pairwise_map, pairwise_append}
use Rattle.prefix.specs.declared.Prefix.{Prefix}
use Rattle.prefix.specs.Prefixes.{longest, size, prefix, end, Aligned, Inside, Apart, lower, upper}
use Rattle.prefix.proofs.PrefixLaws.{size-half, size-positive, apart-sym}
use Rattle.prefix.proofs.Nesting.{order, prefix-path, inside-trans, apart-sub, apart-absurd, inside-order, aligned-down, aligned-end, aligned-lower, aligned-upper, next_multiple, nested}
use Rattle.free_space.specs.Space.{Free, around, Whole, NotWorse, Takes, unused?}
use Rattle.free_space.specs.Grant.{covered?, pick, walk, wholes, best, lowest_part, grant}
use Rattle.free_space.specs.Serving.{Length, Pools, Before}
use Rattle.free_space.proofs.WalkLaws.{Level, short, unused-of, pick_all, walk-listed}
use Rattle.free_space.proofs.BestLaws.{Best, not-worse-antisym, best-best, best-holds}
use Rattle.free_space.proofs.GrantLaws.{walk_pool, pool-level, wholes-found, found, cover, free-inside}

-- the prefix twice the size around another

around-lower : (p : Prefix) → Aligned p → around (lower p) ≡ p
around-lower p u =
    let e : p.length + 1 - 1 ≡ p.length = omega arith in
    prefix-path _ _ (ap (λ (x : ℕ). p.network / size x * size x) e ∙ omega (arith, div-add-mod' p.network (size p.length))) e

around-upper : (p : Prefix) → p.length < 32 → Aligned p → around (upper p) ≡ p
around-upper p s u =
    let e : p.length + 1 - 1 ≡ p.length = omega arith in
    let m : p.network / size p.length * size p.length ≡ p.network = omega (arith, div-add-mod' p.network (size p.length)) in
    let d : (p.network + size (p.length + 1)) / size p.length ≡ p.network / size p.length =
    ap (λ (y : ℕ). (y + size (p.length + 1)) / size p.length) (sym m)
    ∙ digits_div (p.network / size p.length) {m = size p.length} {r = size (p.length + 1)} (omega (arith, size-half p.length s, size-positive (p.length + 1))) in
    prefix-path _ _ (ap (λ (x : ℕ). (upper p).network / size x * size x) e ∙ ap (λ (y : ℕ). y * size p.length) d ∙ m) e

around-aligned : (w : Prefix) → Aligned (around w)
around-aligned w = mul-mod_left (w.network / size (w.length - 1)) (size (w.length - 1))

-- A prefix in a larger one is there with the prefix twice its size around it.
around-inside : (w v : Prefix) → w.length ≤ 32 → Aligned v → Inside w v → order w < order v → Inside (around w) v
around-inside w v k b i l =
    let s : ℕ = size (w.length - 1) in
    let m : ℕ = w.network / s * s in
    let o : 32 - (w.length - 1) ≤ order v = omega arith in
    let u : m % s ≡ 0 = mul-mod_left (w.network / s) s in
    let low : m ≤ w.network = div-mul-le_self w.network s in
    let high : w.network < m + s = lt-div-mul-add (size-positive (w.length - 1)) in (
      by_cases (dec_le v.network m) (λ q. q)
          (λ q. absurd (omega (arith, next_multiple s m v.network u (aligned-down v.network (32 - (w.length - 1)) (order v) o b) (omega arith)))),
      next_multiple s m (end v) u (aligned-end v (32 - (w.length - 1)) o b) (omega (arith, size-positive w.length)),
    )

-- a listed prefix is whole

abbrev Top : List Prefix → Prefix → Prefix → Type 0
Top leases p w = (w ≡ p) ⊎ (All (Apart (around w)) leases → ⊥)

top-half : (leases : List Prefix) (p half w : Prefix) → around half ≡ p → unused? leases p ≡ false → Top leases half w → Top leases p w
top-half leases p half w t e (inl q) = inr (λ a. true≢false (sym (unused-of leases p (subst (λ (z : Prefix). All (Apart z) leases) (ap around q ∙ t) a)) ∙ e))
top-half leases p half w t e (inr q) = inr q

walk_top : (leases : List Prefix) (h : ℕ) (p : Prefix) → Level h p → Aligned p → All (Top leases p) (walk leases h p)
walk_top leases zero p v u = pick_all (Top leases p) (unused? leases p) (covered? leases p) p [] (λ _. inl refl) (λ _ _. tt)
walk_top leases (suc h) p v u =
    pick_all (Top leases p) (unused? leases p) (covered? leases p) p (walk leases h (lower p) ++ walk leases h (upper p)) (λ _. inl refl)
    (λ e _. all_append (Top leases p) (walk leases h (lower p)) (walk leases h (upper p))
    (all_map (λ w. top-half leases p (lower p) w (around-lower p u) e) (walk leases h (lower p)) (walk_top leases h (lower p) (omega arith) (aligned-lower p u)))
    (all_map (λ w. top-half leases p (upper p) w (around-upper p (short h p v) u) e) (walk leases h (upper p)) (walk_top leases h (upper p) (omega arith) (aligned-upper p u))))

wholes-top : (pools leases : List Prefix) → All (λ p. Length p.length) pools → All Aligned pools
    → All (λ w. Any (λ p. p ≡ w) pools ⊎ (All (Apart (around w)) leases → ⊥)) (wholes pools leases)
wholes-top [] leases l u = tt
wholes-top (p ∷ ps) leases l u =
    all_append (λ w. Any (λ x. x ≡ w) (p ∷ ps) ⊎ (All (Apart (around w)) leases → ⊥)) (walk_pool leases p) (wholes ps leases)
    (all_map (λ w. ⊎_elim (λ e. inl (inl (sym e))) inr) (walk_pool leases p) (walk_top leases (32 - p.length) p (pool-level p l.0) u.0))
    (all_map (λ w. ⊎_elim (λ e. inl (inr e)) inr) (wholes ps leases) (wholes-top ps leases l.1 u.1))

pub wholes-whole : (pools leases : List Prefix) → Pools pools → All (Whole pools leases) (wholes pools leases)
wholes-whole pools leases good =
    all-map₂ (λ w a t. record { free = a.free; maximal = ⊎_elim inl (λ f. inr (λ b. f b.unused)) t }) (wholes pools leases)
    (found pools good leases) (wholes-top pools leases good.lengths good.aligned)

-- No prefix larger than a pool is inside one.
pool-once : (pools : List Prefix) (w v : Prefix) → Pairwise Apart pools → Any (λ p. p ≡ w) pools → Any (Inside v) pools → Inside w v → Inside v w
pool-once [] w v d e i k = absurd e
pool-once (p ∷ ps) w v d (inl e) (inl i) k = subst (Inside v) e i
pool-once (p ∷ ps) w v d (inl e) (inr i) k =
    let t = any-all ps i d.0 in
    absurd (apart-absurd w t.0 (inside-trans w v t.0 k t.1) (subst (λ (x : Prefix). Apart x t.0) e t.2))
pool-once (p ∷ ps) w v d (inr e) (inl i) k =
    let t = any-all ps e d.0 in
    absurd (apart-absurd w p (inside-trans w v p k i) (subst (λ (x : Prefix). Apart x p) t.1 (apart-sym p t.0 t.2)))
pool-once (p ∷ ps) w v d (inr e) (inr i) k = pool-once ps w v d.1 e i k

module _ (pools : List Prefix) (good : Pools pools) where
  -- A whole prefix has at least one address to itself.
  pub whole_length : (leases : List Prefix) (w : Prefix) → Whole pools leases w → w.length ≤ 32
  whole_length leases w k =
      by_cases (dec_le w.length 32) (λ q. q)
      (λ q. absurd (⊎_elim
      (λ r. let t = any-all pools r good.lengths in omega (arith, ap (λ (x : Prefix). x.length) t.1, t.2.1))
      (λ f. f (free-inside pools good leases (around w) w k.free (around-aligned w) (single w (omega arith))))
      k.maximal))
    where
      single : (w : Prefix) → 32 < w.length → Inside (around w) w
      single w q =
          let e : 32 - (w.length - 1) ≡ 0 = omega arith in
          let s : size (w.length - 1) ≡ 1 = ap (λ (x : ℕ). 2 ^ x) e in
          let n : w.network / size (w.length - 1) * size (w.length - 1) ≡ w.network = omega (arith, div-add-mod' w.network (size (w.length - 1)), lt-div-mul-add {a = w.network} (size-positive (w.length - 1)), div-mul-le_self w.network (size (w.length - 1))) in
          omega (arith, size-positive w.length)

  -- A free prefix around a whole one is that one.
  pub largest : (leases : List Prefix) (w v : Prefix) → Whole pools leases w → v.length ≤ 32 → Inside w v → Free pools leases v → v ≡ w
  largest leases w v k s i a =
      let n = whole_length leases w k in
      by_cases (dec_le (order v) (order w))
      (λ q.
      let e : order v ≡ order w = omega (arith, inside-order w v i) in
      prefix-path v w (omega (arith, ap (λ (o : ℕ). 2 ^ o) e)) (omega arith))
      (λ q. absurd (⊎_elim
      (λ r. omega (arith, inside-order v w (pool-once pools w v good.disjoint r a.pooled i)))
      (λ f. f (free-inside pools good leases (around w) v a (around-aligned w) (around-inside w v n a.aligned i (omega arith))))
      k.maximal))

  wholes-complete : (leases : List Prefix) (w : Prefix) → Whole pools leases w → Any (λ v. v ≡ w) (wholes pools leases)
  wholes-complete leases w k =
      any-map₂ (λ v i a. largest leases w v k a.length i a.free) (wholes pools leases) (cover pools good leases w k.free) (found pools good leases)

  -- "A free block is whole if it is a root or the block twice its size around it isn't free": the walk lists exactly these.
  pub wholes-exactly : (leases : List Prefix) (w : Prefix) → Any (λ v. v ≡ w) (wholes pools leases) ↔ Whole pools leases w
  wholes-exactly leases w =
      ((λ a. let t = any-all (wholes pools leases) a (wholes-whole pools leases good) in subst (Whole pools leases) t.1 t.2), wholes-complete leases w)

  -- "An ask of length p takes, among whole free blocks of length at most p, the smallest, the lowest network among equals, and of that the lowest part
  -- of length p."
  pub grant-takes : (leases : List Prefix) (length : ℕ) (g : Prefix) → (grant pools leases length ≡ some g) ↔ Takes pools leases length g
  grant-takes leases length g =
      (to (best length ws) (best-best length ws) (best-holds (Whole pools leases) length ws sound), from (best length ws) (best-best length ws) (best-holds (Whole pools leases) length ws sound))
    where
      ws : List Prefix
      ws = wholes pools leases

      sound : All (Whole pools leases) (wholes pools leases)
      sound = wholes-whole pools leases good

      least : (w : Prefix) → Best length (wholes pools leases) (some w) → (v : Prefix) → Whole pools leases v → v.length ≤ length → NotWorse w v
      least w b v k q =
          let t = any-all (wholes pools leases) (wholes-complete leases v k) b.1 in
          subst (NotWorse w) t.1 (t.2 (subst (λ (x : Prefix). x.length ≤ length) (sym t.1) q))

      to : (o : Option Prefix) → Best length (wholes pools leases) o → OfSome (Whole pools leases) o → lowest_part length o ≡ some g → Takes pools leases length g
      to none b a e = absurd (none-ne-some g e)
      to (some w) b a e = record { from = w; whole = a; large = b.0; best = least w b; part = cc }

      from : (o : Option Prefix) → Best length (wholes pools leases) o → OfSome (Whole pools leases) o → Takes pools leases length g → lowest_part length o ≡ some g
      from none b a k =
          let t = any-all (wholes pools leases) (wholes-complete leases k.from k.whole) b in
          absurd (omega (arith, k.large, t.2, ap (λ (x : Prefix). x.length) t.1))
      from (some w) b a k =
          let e = not-worse-antisym w k.from (least w b k.from k.whole k.large) (k.best w a b.0) in
          ap (λ (x : Prefix). some (prefix x.network length)) e ∙ ap (λ (x : Prefix). some x) (sym k.part)

-- the walk ascends, and no two of its prefixes share an address

pick-ascends : (R : Prefix → Prefix → Type 0) (s t : Bool) (p : Prefix) (ws : List Prefix) → Pairwise R ws → Pairwise R (pick s t p ws)
pick-ascends R true t p ws d = (tt, tt)
pick-ascends R false true p ws d = tt
pick-ascends R false false p ws d = d

pub walk-ascends : (leases : List Prefix) (h : ℕ) (p : Prefix) → Level h p → Aligned p → Pairwise Before (walk leases h p)
walk-ascends leases zero p v u = pick-ascends Before (unused? leases p) (covered? leases p) p [] tt
walk-ascends leases (suc h) p v u =
    let low : List Prefix = walk leases h (lower p) in
    let high : List Prefix = walk leases h (upper p) in
    pick-ascends Before (unused? leases p) (covered? leases p) p (low ++ high)
    (pairwise_append Before low high (walk-ascends leases h (lower p) (omega arith) (aligned-lower p u)) (walk-ascends leases h (upper p) (omega arith) (aligned-upper p u))
    (all_map (λ w k. all_map (λ x m. cross w x k.inside m.inside) high (walk-listed leases h (upper p) (omega arith) (aligned-upper p u)))
    low (walk-listed leases h (lower p) (omega arith) (aligned-lower p u))))
  where
    cross : (w x : Prefix) → Inside w (lower p) → Inside x (upper p) → Before w x
    cross w x i k = omega arith

-- What holds of any two prefixes that lie in two pools, the one before the other, holds of those listed.
concat_map-pairwise : (R : Prefix → Prefix → Type 0) → ((a b p q : Prefix) → Inside a p → Inside b q → R p q → R a b)
    → (pools leases : List Prefix) → All (λ p. Length p.length) pools → All Aligned pools → All (λ p. Pairwise R (walk_pool leases p)) pools → Pairwise R pools → Pairwise R (wholes pools leases)
concat_map-pairwise R f [] leases l u w d = tt
concat_map-pairwise R f (p ∷ ps) leases l u w d =
    pairwise_append R (walk_pool leases p) (wholes ps leases) w.0 (concat_map-pairwise R f ps leases l.1 u.1 w.1 d.1)
    (all_map (λ a k. all_map (λ b m. let t = any-all ps m.free.pooled d.0 in f a b p t.0 k.inside t.1 t.2) (wholes ps leases) (wholes-found ps leases l.1 u.1))
    (walk_pool leases p) (walk-listed leases (32 - p.length) p (pool-level p l.0) u.0))

pools-ascend : (leases : List Prefix) (pools : List Prefix) → All (λ p. Length p.length) pools → All Aligned pools → All (λ p. Pairwise Before (walk_pool leases p)) pools
pools-ascend leases = all-map₂ (λ p l u. walk-ascends leases (32 - p.length) p (pool-level p l) u)

-- "Walking each root in ascending order": where the pools ascend, so do the whole free prefixes.
pub wholes-ascend : (pools leases : List Prefix) → Pools pools → Pairwise Before pools → Pairwise Before (wholes pools leases)
wholes-ascend pools leases good =
    concat_map-pairwise Before (λ a b p q i j d. omega arith) pools leases good.lengths good.aligned (pools-ascend leases pools good.lengths good.aligned)

-- No two whole free prefixes share an address, in whatever order the pools stand.
pub wholes-apart : (pools leases : List Prefix) → Pools pools → Pairwise Apart (wholes pools leases)
wholes-apart pools leases good =
    concat_map-pairwise Apart (λ a b p q i j d. apart-sym b a (apart-sub b q a j (apart-sym a q (apart-sub a p q i d)))) pools leases good.lengths good.aligned
    (all_map (λ p. pairwise_map (λ a b h. inl h) (walk_pool leases p)) pools (pools-ascend leases pools good.lengths good.aligned)) good.disjoint

-- "A block length runs from 1 to 30": where the leases are blocks, so is every whole free prefix.
pub whole-block : (pools leases : List Prefix) → Pools pools → All (λ l. (l.length ≤ longest) × Aligned l) leases → (w : Prefix) → Whole pools leases w → Length w.length
whole-block pools leases good blocks w k =
    let n = whole_length pools good leases w k in
    let t = any-all pools k.free.pooled good.lengths in (
      omega (arith, inside-order w t.0 t.1, t.2),
      by_cases (dec_le w.length longest) (λ q. q)
          (λ q. absurd (⊎_elim
          (λ r. let u = any-all pools r good.lengths in omega (arith, ap (λ (x : Prefix). x.length) u.1, u.2.1))
          (λ f. f (record {
            aligned = around-aligned w;
            pooled =
                any-map₂ (λ p i (a : Length p.length × Aligned p). around-inside w p n a.1 i (order-in p a.0 (omega arith))) pools k.free.pooled
                (all-map₂ (λ p a b. (a, b)) pools good.lengths good.aligned);
            unused = all-map₂ (λ l a b. beside l a.0 a.1 b (omega arith)) leases blocks k.free.unused;
          }))
          k.maximal)),
    )
  where
    order-in : (p : Prefix) → Length p.length → longest < w.length → order w < order p
    order-in p l q = omega arith

    beside : (l : Prefix) → l.length ≤ longest → Aligned l → Apart w l → longest < w.length → Apart (around w) l
    beside l s u a q =
        ⊎_elim
        (λ i. absurd (⊎_elim
        (λ b. omega (arith, b, i, div-mul-le_self w.network (size (w.length - 1)), size-positive w.length))
        (λ b. omega (arith, b, i, lt-div-mul-add {a = w.network} (size-positive (w.length - 1)))) a))
        (λ b. b) (nested (around w) l (around-aligned w) u (omega arith))
