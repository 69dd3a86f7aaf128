-- A sum of counts is the number of whole free blocks.
-- Assumes nothing.
use Prim.Native.Nat.{ℕ, zero, suc, ◌+◌, ◌-◌, ◌≤◌, ◌<◌}
use mathlib.Core.Path.{◌≡◌, refl, sym, ap, subst, ◌∙◌}
use mathlib.Core.Logic.{inl, inr, ⊎_elim, by_cases}
use mathlib.Core.Bool.{Bool, true, false, true≢false}
use mathlib.Core.List.{List, [], ◌∷◌, ◌++◌, map}
use native.Mathlib.Decide.{dec_le}
use native.Mathlib.Omega.{arith}
use lib.ListN.{length, get_or, replicate}
use lib.Dec.{eqb}
use borrow.Author.Tests.{eqb-true, eq-eqb}
use Rattle.lists.specs.Lists.{All, Any, Pairwise, filter}
use Rattle.lists.proofs.Tests.{bool_cases}
use Rattle.lists.proofs.ListLaws.{all_map, all-map₂, all-image, any-all, pairwise_map}
use Rattle.lists.proofs.FilterLaws.{filter-yes, filter-no, filter-all, filter-pass}
use Rattle.prefix.specs.declared.Prefix.{Prefix}
use Rattle.prefix.specs.Prefixes.{longest, Aligned, Inside, Apart}
use Rattle.prefix.proofs.Nesting.{inside-refl, apart-absurd}
use Rattle.free_space.specs.Space.{Whole}
use Rattle.free_space.specs.Grant.{walk, wholes}
use Rattle.free_space.specs.Serving.{one?, number, Pools}
use Rattle.free_space.proofs.Rules.{wholes-whole, wholes-exactly, wholes-apart, whole_length, whole-block}
use Rattle.table.specs.declared.Lease.{Lease}
use Rattle.table.specs.declared.LeaseTable.{LeaseTable}
use Rattle.table.specs.Table.{pool_slots, shortest_pool, prefix_of, pools_of, present, sound}
use Rattle.table.proofs.Ascending.{ascending-apart}
use Rattle.table.proofs.TableLaws.{Good, sound-fine}
use Rattle.counts.specs.Counts.{counted_lengths, lengths_from, count_row, counts_of, summed, sum_at}
use Rattle.counts.specs.Meaning.{CountsWholes}
use Rattle.counts.specs.InnerLevels.{Laid}
use Rattle.counts.proofs.OneLaws.{number_append}
use Rattle.counts.proofs.CompareLaws.{sum_below, sum-above, sum-within}
use Rattle.counts.proofs.LevelRows.{sound-laid}
use Rattle.counts.proofs.BelowLaws.{number-none, inside-longer}

-- OF A LENGTH THAT IS COUNTED

length_at : (f : ℕ → ℕ) (l k j : ℕ) → j < k → get_or (map f (lengths_from l k)) j 0 ≡ f (l + j)
unfolding lengths_from
length_at f l zero j h = absurd (omega arith)
length_at f l (suc k) zero h = ap f (omega arith)
length_at f l (suc k) (suc j) h = length_at f (suc l) k j (omega arith) ∙ ap f (omega arith)

zero-at : (n j : ℕ) → get_or (replicate {A = ℕ} n 0) j 0 ≡ 0
zero-at zero j = refl
zero-at (suc n) zero = refl
zero-at (suc n) (suc j) = zero-at n j

module _ (leases : List Prefix) (j : ℕ) (h : j < counted_lengths) where
  row-place : (p : Prefix) → get_or (count_row leases p) j 0 ≡ number (shortest_pool + j) (walk leases (32 - p.length) p)
  unfolding count_row
  row-place p = length_at (λ l. number l (walk leases (32 - p.length) p)) shortest_pool counted_lengths j h

  none-summed : (m : ℕ) → summed j (replicate m (replicate counted_lengths 0)) ≡ 0
  none-summed zero = refl
  none-summed (suc m) = omega (arith, zero-at counted_lengths j, none-summed m)

  rows-summed : (ps : List Prefix) (m : ℕ) → summed j (map (count_row leases) ps ++ replicate m (replicate counted_lengths 0)) ≡ number (shortest_pool + j) (wholes ps leases)
  rows-summed [] m = none-summed m
  rows-summed (p ∷ ps) m =
      omega (
        arith,
        row-place p,
        rows-summed ps m,
        number_append (shortest_pool + j) (walk leases (32 - p.length) p) (wholes ps leases),
      )

pub sum-is-wholes : (t : LeaseTable) (len : ℕ) → shortest_pool ≤ len → len ≤ longest
    → sum_at (counts_of t) len ≡ number len (wholes (pools_of t) (map prefix_of (present t.last t.leases)))
unfolding counts_of
sum-is-wholes t len l h =
    let leases : List Prefix = map prefix_of (present t.last t.leases) in
    let place : shortest_pool + (len - shortest_pool) ≡ len = omega arith in
    sym (sum-within (counts_of t) len l h (summed (len - shortest_pool) (counts_of t)) refl)
    ∙ rows-summed leases (len - shortest_pool) (omega arith) (pools_of t) (pool_slots - length (pools_of t))
    ∙ ap (λ (m : ℕ). number m (wholes (pools_of t) leases)) place

-- OF ANY LENGTH

module _ (ws : List Prefix) (len : ℕ) where
  abbrev those : List Prefix
  those = filter (λ w. eqb w.length len) ws

number-those : (ws : List Prefix) (len : ℕ) → number len ws ≡ length (those ws len)
number-those [] len = refl
number-those (w ∷ ws) len =
    ⊎_elim
    (λ (e : eqb w.length len ≡ true).
    omega (arith, ap one? e, number-those ws len, ap length (filter-yes (λ (v : Prefix). eqb v.length len) w ws e)))
    (λ (e : eqb w.length len ≡ false).
    omega (arith, ap one? e, number-those ws len, ap length (filter-no (λ (v : Prefix). eqb v.length len) w ws e)))
    (bool_cases (eqb w.length len))

filter-pairwise : (R : Prefix → Prefix → Type 0) (f : Prefix → Bool) (ws : List Prefix) → Pairwise R ws → Pairwise R (filter f ws)
filter-pairwise R f [] d = tt
filter-pairwise R f (w ∷ ws) d =
    ⊎_elim
    (λ (e : f w ≡ true). subst (Pairwise R) (sym (filter-yes f w ws e)) (filter-all f (R w) ws d.0, filter-pairwise R f ws d.1))
    (λ (e : f w ≡ false). subst (Pairwise R) (sym (filter-no f w ws e)) (filter-pairwise R f ws d.1))
    (bool_cases (f w))

filter-keeps : (f : Prefix → Bool) (w : Prefix) → f w ≡ true → (ws : List Prefix) → Any (λ v. v ≡ w) ws → Any (λ v. v ≡ w) (filter f ws)
filter-keeps f w pass [] a = a
filter-keeps f w pass (v ∷ ws) a =
    ⊎_elim
    (λ (e : f v ≡ true). subst (Any (λ x. x ≡ w)) (sym (filter-yes f v ws e)) (⊎_elim (λ (q : v ≡ w). inl q) (λ (b : Any (λ x. x ≡ w) ws). inr (filter-keeps f w pass ws b)) a))
    (λ (e : f v ≡ false).
    subst (Any (λ x. x ≡ w)) (sym (filter-no f v ws e))
    (⊎_elim (λ (q : v ≡ w). absurd (true≢false (sym pass ∙ ap f (sym q) ∙ e))) (λ (b : Any (λ x. x ≡ w) ws). filter-keeps f w pass ws b) a))
    (bool_cases (f v))

module _ (t : LeaseTable) (e : sound t ≡ true) where
  abbrev leases : List Prefix
  leases = map prefix_of (present t.last t.leases)

  abbrev laid : Laid 0 (pools_of t) leases
  laid = sound-laid t e

  pub pools-good : Pools (pools_of t)
  pools-good = record {
    lengths = all_map (λ p (h : (shortest_pool ≤ p.length) × (p.length ≤ longest)). (omega arith, h.1)) (pools_of t) laid.lengths;
    aligned = laid.aligned;
    disjoint = ascending-apart (λ p. p) 0 (pools_of t) laid.pools-ascend;
  }

  blocks-good : All (λ l. (l.length ≤ longest) × Aligned l) leases
  blocks-good =
      let xs : List Lease = present t.last t.leases in
      all-image prefix_of (λ l. (l.length ≤ longest) × Aligned l) xs (all_map (λ x (g : Good (pools_of t) t.last x). (g.long, g.aligned)) xs (sound-fine t e t.last).0)

  -- A whole free block has a length 8 to 30.
  pub whole-counted : (w : Prefix) → Whole (pools_of t) leases w → (shortest_pool ≤ w.length) × (w.length ≤ longest)
  whole-counted w k =
      let p = any-all (pools_of t) k.free.pooled laid.lengths in (
        omega (arith, p.2, inside-longer w p.0 (omega (arith, p.2)) (whole_length (pools_of t) pools-good leases w k) p.1),
        (whole-block (pools_of t) leases pools-good blocks-good w k).1,
      )

  not-counted : (len : ℕ) → ((shortest_pool ≤ len) × (len ≤ longest) → ⊥) → number len (wholes (pools_of t) leases) ≡ 0
  not-counted len out =
      number-none len (wholes (pools_of t) leases) (all_map other (wholes (pools_of t) leases) (wholes-whole (pools_of t) leases pools-good))
    where
      other : (w : Prefix) → Whole (pools_of t) leases w → w.length ≡ len → ⊥
      other w k q = let c = whole-counted w k in out (omega (arith, c), omega (arith, c))

  sum-is-number : (len : ℕ) → sum_at (counts_of t) len ≡ number len (wholes (pools_of t) leases)
  sum-is-number len =
      by_cases (dec_le shortest_pool len)
      (λ l. by_cases (dec_le len longest)
      (λ h. sum-is-wholes t len l h)
      (λ h. sym (sum-above (counts_of t) len l (omega arith)) ∙ sym (not-counted len (λ c. h c.1))))
      (λ l. sym (sum_below (counts_of t) len (omega arith)) ∙ sym (not-counted len (λ c. l c.0)))

  -- THE QUERY'S ANSWER: the number of whole free blocks of the length, for every length.
  pub sum-counts-wholes : (len : ℕ) → CountsWholes (pools_of t) leases len (sum_at (counts_of t) len)
  sum-counts-wholes len =
      let ws : List Prefix = wholes (pools_of t) leases in
      let f : Prefix → Bool = λ w. eqb w.length len in
      record {
        blocks = those ws len;
        different = pairwise_map apart-different (those ws len) (filter-pairwise Apart f ws (wholes-apart (pools_of t) leases pools-good));
        whole = all-map₂ long-and-whole (those ws len) (filter-all f (Whole (pools_of t) leases) ws (wholes-whole (pools_of t) leases pools-good)) (filter-pass f ws);
        every = λ w k q. filter-keeps f w (eq-eqb w.length len q) ws ((wholes-exactly (pools_of t) pools-good leases w).1 k);
        counted = sum-is-number len ∙ number-those ws len;
      }
    where
      apart-different : (v w : Prefix) → Apart v w → v ≡ w → ⊥
      apart-different v w a q = apart-absurd v w (subst (Inside v) q (inside-refl v)) a

      long-and-whole : (w : Prefix) → Whole (pools_of t) leases w → eqb w.length len ≡ true → Whole (pools_of t) leases w × (w.length ≡ len)
      long-and-whole w k q = (k, eqb-true w.length len q)
