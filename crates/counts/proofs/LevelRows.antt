-- The rows of the pools of a sound table, by levels, are its counts.
-- Assumes nothing.
use Prim.Native.Nat.{ℕ, ◌-◌, ◌≤◌, ◌<◌}
use mathlib.Core.Path.{◌≡◌, refl, sym, ap, ap₂, subst, ◌∙◌}
use mathlib.Core.Logic.{inl, inr, by_cases}
use mathlib.Core.Bool.{true}
use mathlib.Core.List.{List, [], ◌∷◌, ◌++◌, map, append_assoc}
use native.Mathlib.Decide.{dec_lt}
use native.Mathlib.Omega.{arith}
use lib.ListN.{length, replicate}
use lib.Dec.{ltb}
use borrow.Author.Tests.{lt-ltb, le-ltb}
use Rattle.lists.specs.Lists.{All, Any, Pairwise}
use Rattle.lists.proofs.Tests.{cond-true, cond-false}
use Rattle.lists.proofs.ListLaws.{all_map, all-map₂, all_append, all_left, all_right, all-image, any-all}
use Rattle.prefix.specs.declared.Prefix.{Prefix}
use Rattle.prefix.specs.Prefixes.{longest, end, Aligned, Inside, Apart}
use Rattle.prefix.proofs.PrefixLaws.{size-positive}
use Rattle.free_space.specs.Serving.{Before}
use Rattle.table.specs.declared.Pool.{Pool}
use Rattle.table.specs.declared.Lease.{Lease}
use Rattle.table.specs.declared.LeaseTable.{LeaseTable}
use Rattle.table.specs.Table.{pool_slots, shortest_pool, prefix_of, pool_prefix, prefixes_of, unused?, pools_of, present, sound}
use Rattle.table.proofs.Ascending.{Ascending, used, ascending-low, ascending-image}
use Rattle.table.proofs.TableLaws.{GoodPool, Good, sound-pools, sound-fine}
use Rattle.counts.specs.Counts.{count_row, counts_of, counted_lengths}
use Rattle.counts.specs.InnerLevels.{Lies, Rooted, Laid, start_in, start_past, level_rows}
use Rattle.counts.proofs.LevelRow.{row-by-levels}

module _ (stop : ℕ) where
  pub in-first : (x : Prefix) (xs : List Prefix) → x.network < stop → start_in stop (x ∷ xs) ≡ x ∷ start_in stop xs
  unfolding start_in
  in-first x xs h = cond-true (ltb x.network stop) _ _ (lt-ltb x.network stop h)

  pub in-none : (x : Prefix) (xs : List Prefix) → stop ≤ x.network → start_in stop (x ∷ xs) ≡ []
  unfolding start_in
  in-none x xs h = cond-false (ltb x.network stop) _ _ (le-ltb x.network stop h)

  pub past_first : (x : Prefix) (xs : List Prefix) → x.network < stop → start_past stop (x ∷ xs) ≡ start_past stop xs
  unfolding start_past
  past_first x xs h = cond-true (ltb x.network stop) _ _ (lt-ltb x.network stop h)

  pub past-none : (x : Prefix) (xs : List Prefix) → stop ≤ x.network → start_past stop (x ∷ xs) ≡ x ∷ xs
  unfolding start_past
  past-none x xs h = cond-false (ltb x.network stop) _ _ (le-ltb x.network stop h)

  pub in-empty : start_in stop [] ≡ []
  unfolding start_in
  in-empty = refl

  pub past-empty : start_past stop [] ≡ []
  unfolding start_past
  past-empty = refl

  -- Leases that ascend, split where they reach an address.
  pub record Split (xs : List Prefix) : Type 0 where
    pub all : xs ≡ start_in stop xs ++ start_past stop xs
    pub first : All (λ x. x.network < stop) (start_in stop xs)
    pub past : All (λ x. stop ≤ x.network) (start_past stop xs)
    pub ascend-first : Pairwise Before (start_in stop xs)
    pub ascend-past : Pairwise Before (start_past stop xs)

  pub split : (xs : List Prefix) → Pairwise Before xs → Split xs
  unfolding start_in start_past
  split [] w = record { all = refl; first = tt; past = tt; ascend-first = tt; ascend-past = tt }
  split (x ∷ xs) w =
      by_cases (dec_lt x.network stop)
      (λ h.
      let r : Split xs = split xs w.1 in
      let ei = in-first x xs h in
      let ep = past_first x xs h in
      record {
        all = ap (λ (l : List Prefix). x ∷ l) r.all ∙ sym (ap₂ (λ (a b : List Prefix). a ++ b) ei ep);
        first = subst (All (λ y. y.network < stop)) (sym ei) (h, r.first);
        past = subst (All (λ y. stop ≤ y.network)) (sym ep) r.past;
        ascend-first = subst (Pairwise Before) (sym ei) (all_left (Before x) (start_in stop xs) (start_past stop xs) (subst (All (Before x)) r.all w.0), r.ascend-first);
        ascend-past = subst (Pairwise Before) (sym ep) r.ascend-past;
      })
      (λ h.
      let g : stop ≤ x.network = omega arith in
      let ei = in-none x xs g in
      let ep = past-none x xs g in
      record {
        all = sym (ap₂ (λ (a b : List Prefix). a ++ b) ei ep);
        first = subst (All (λ y. y.network < stop)) (sym ei) tt;
        past = subst (All (λ y. stop ≤ y.network)) (sym ep) (g, all_map (λ y (b : Before x y). omega (arith, size-positive x.length)) xs w.0);
        ascend-first = subst (Pairwise Before) (sym ei) tt;
        ascend-past = subst (Pairwise Before) (sym ep) w;
      })

-- A lease that starts before the end of the first pool is inside that, and no other is.
rooted-first : (p : Prefix) (ps : List Prefix) (x : Prefix) → All (λ q. end p ≤ q.network) ps → Rooted (p ∷ ps) x → x.network < end p → Lies p x
rooted-first p ps x low r h = record { inside = go r.pooled; aligned = r.aligned; long = r.long }
  where
    go : Any (Inside x) (p ∷ ps) → Inside x p
    go (inl i) = i
    go (inr a) = let t = any-all ps a low in absurd (omega (arith, t.1.0, t.2))

rooted-past : (p : Prefix) (ps : List Prefix) (x : Prefix) → Rooted (p ∷ ps) x → end p ≤ x.network → Rooted ps x
rooted-past p ps x r h = record { pooled = go r.pooled; aligned = r.aligned; long = r.long }
  where
    go : Any (Inside x) (p ∷ ps) → Any (Inside x) ps
    go (inl i) = absurd (omega (arith, i.1, size-positive x.length))
    go (inr a) = a

-- The leases of the first pool, and what is left for the others.
module _ (c : ℕ) (p : Prefix) (ps xs : List Prefix) (laid : Laid c (p ∷ ps) xs) where
  first-split : Split (end p) xs
  first-split = split (end p) xs laid.leases-ascend

  all-rooted : All (Rooted (p ∷ ps)) (start_in (end p) xs ++ start_past (end p) xs)
  all-rooted = subst (All (Rooted (p ∷ ps))) first-split.all laid.rooted

  pub laid-lies : All (Lies p) (start_in (end p) xs)
  laid-lies =
      let later : All (λ q. end p ≤ q.network) ps = ascending-low (λ q. q) (end p) ps laid.pools-ascend.1 in
      all-map₂ (λ x r h. rooted-first p ps x later r h) (start_in (end p) xs) (all_left (Rooted (p ∷ ps)) (start_in (end p) xs) (start_past (end p) xs) all-rooted) first-split.first

  pub laid-ascend : Pairwise Before (start_in (end p) xs)
  laid-ascend = first-split.ascend-first

  pub laid-past : Laid (end p) ps (start_past (end p) xs)
  laid-past = record {
    lengths = laid.lengths.1;
    aligned = laid.aligned.1;
    pools-ascend = laid.pools-ascend.1;
    leases-ascend = first-split.ascend-past;
    rooted = all-map₂ (λ x r h. rooted-past p ps x r h) (start_past (end p) xs) (all_right (Rooted (p ∷ ps)) (start_in (end p) xs) (start_past (end p) xs) all-rooted) first-split.past;
  }

pub rows-by-levels : (ps before xs : List Prefix) (c : ℕ) → Laid c ps xs → All (λ x. end x ≤ c) before → level_rows ps xs ≡ map (count_row (before ++ xs)) ps
unfolding level_rows
rows-by-levels [] before xs c laid low = refl
rows-by-levels (p ∷ ps) before xs c laid low =
    let s : Split (end p) xs = first-split c p ps xs laid in
    let us : List Prefix = start_in (end p) xs in
    let vs : List Prefix = start_past (end p) xs in
    let lie : All (Lies p) us = laid-lies c p ps xs laid in
    let apart_before : All (Apart p) before = all_map (λ x (h : end x ≤ c). inr (omega (arith, laid.pools-ascend.0))) before low in
    let apart_after : All (Apart p) vs = all_map (λ x (h : end p ≤ x.network). inl h) vs s.past in
    let low₁ : All (λ x. end x ≤ end p) (before ++ us) =
    all_append (λ x. end x ≤ end p) before us
    (all_map (λ x (h : end x ≤ c). omega (arith, laid.pools-ascend.0, size-positive p.length)) before low)
    (all_map (λ x (l : Lies p x). l.inside.1) us lie) in
    let same : (before ++ us) ++ vs ≡ before ++ xs = append_assoc before us vs ∙ ap (λ (l : List Prefix). before ++ l) (sym s.all) in
    ap₂ (λ (r : List ℕ) (rs : List (List ℕ)). r ∷ rs)
    (sym (ap (λ (l : List Prefix). count_row (before ++ l) p) s.all ∙ row-by-levels p (omega (arith, laid.lengths.0.1)) laid.aligned.0 before us vs apart_before apart_after lie s.ascend-first))
    (rows-by-levels ps (before ++ us) vs (end p) (laid-past c p ps xs laid) low₁ ∙ ap (λ (l : List Prefix). map (count_row l) ps) same)

-- A SOUND TABLE

pub ascending-pairwise : (c : ℕ) (xs : List Prefix) → Ascending (λ p. p) c xs → Pairwise Before xs
ascending-pairwise c [] a = tt
ascending-pairwise c (x ∷ xs) a = (ascending-low (λ p. p) (end x) xs a.1, ascending-pairwise (end x) xs a.1)

module _ (t : LeaseTable) (e : sound t ≡ true) where
  pub sound-laid : Laid 0 (pools_of t) (map prefix_of (present t.last t.leases))
  unfolding prefixes_of
  sound-laid =
      let fine = sound-fine t e t.last in
      let xs : List Lease = present t.last t.leases in
      let pools = sound-pools t e in
      let slots : List Pool = used unused? t.pools in
      record {
        lengths = all-image pool_prefix (λ p. (shortest_pool ≤ p.length) × (p.length ≤ longest)) slots (all_map (λ p (g : GoodPool p). (g.short, g.long)) slots pools.good);
        aligned = all-image pool_prefix Aligned slots (all_map (λ p (g : GoodPool p). g.aligned) slots pools.good);
        pools-ascend = ascending-image pool_prefix 0 slots pools.ascending;
        leases-ascend = ascending-pairwise 0 (map prefix_of xs) (ascending-image prefix_of 0 xs fine.1);
        rooted =
            all-image prefix_of (Rooted (pools_of t)) xs
            (all_map (λ x (g : Good (pools_of t) t.last x). record { pooled = g.pooled; aligned = g.aligned; long = omega (arith, g.long) }) xs fine.0);
      }

  pub counts-by-levels : level_rows (pools_of t) (map prefix_of (present t.last t.leases)) ++ replicate (pool_slots - length (pools_of t)) (replicate counted_lengths 0) ≡ counts_of t
  unfolding counts_of
  counts-by-levels =
      ap (λ (l : List (List ℕ)). l ++ replicate (pool_slots - length (pools_of t)) (replicate counted_lengths 0))
      (rows-by-levels (pools_of t) [] (map prefix_of (present t.last t.leases)) 0 sound-laid tt)
