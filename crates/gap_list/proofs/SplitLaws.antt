-- A lease more splits one gap, and changes no other.
-- Assumes nothing.
use Prim.Native.Nat.{ℕ, zero, suc, ◌+◌, ◌≤◌, ◌<◌}
use mathlib.Core.Path.{◌≡◌, refl, sym, ap, subst, ◌∙◌}
use mathlib.Core.Logic.{◌⊎◌, inl, inr, ⊎_elim}
use mathlib.Core.Bool.{Bool, true, false, cond}
use mathlib.Core.List.{List, [], ◌∷◌, ◌++◌}
use native.Mathlib.Omega.{arith}
use lib.Dec.{ltb}
use borrow.Author.Tests.{ltb-true, ltb-false, lt-ltb, le-ltb}
use Rattle.lists.specs.Lists.{All, Pairwise, insert_by}
use Rattle.lists.proofs.Tests.{bool_cases}
use Rattle.lists.proofs.ListLaws.{all_map, all_append}
use Rattle.lists.proofs.SortingLaws.{insert_by-before, insert_by-after, insert_by-all}
use Rattle.prefix.specs.declared.Prefix.{Prefix}
use Rattle.prefix.specs.Prefixes.{end}
use Rattle.prefix.proofs.PrefixLaws.{size-positive}
use Rattle.free_space.specs.Serving.{Before}
use Rattle.gap_list.specs.Gaps.{Gap, between, PoolGaps, pool_gaps, gaps_of, without, LiesIn}
use Rattle.gap_list.proofs.FitLaws.{between-some, between_none, gaps_at, walk-lease, walk-pool}

abbrev network_of : Prefix → ℕ
network_of x = x.network

-- where gaps begin

between-from : (c a b : ℕ) → c ≤ a → All (λ (g : Gap). c ≤ g.from) (between a b)
between-from c a b h = go (ltb a b)
  where
    go : (t : Bool) → All (λ (g : Gap). c ≤ g.from) (cond t (record { from = a; to = b } ∷ []) [])
    go true = (h, tt)
    go false = tt

record From (c : ℕ) (s : PoolGaps) : Type 0 where
  gaps : All (λ (g : Gap). c ≤ g.from) s.gaps
  left : All (λ x. c ≤ end x) s.left

pool-from : (c from stop : ℕ) (xs : List Prefix) → c ≤ from → All (λ x. c ≤ end x) xs → From c (pool_gaps from stop xs)
pool-from c from stop [] h a = record { gaps = between-from c from stop h; left = tt }
pool-from c from stop (x ∷ xs) h a = go (ltb x.network stop) (pool_gaps (end x) stop xs) (pool-from c (end x) stop xs a.0 a.1)
  where
    go : (t : Bool) (g : PoolGaps) → From c g
        → From c (cond t (record { gaps = between from x.network ++ g.gaps; left = g.left }) (record { gaps = between from stop; left = x ∷ xs }))
    go true g k = record { gaps = all_append (λ (g : Gap). c ≤ g.from) (between from x.network) g.gaps (between-from c from x.network h) k.gaps; left = k.left }
    go false g k = record { gaps = between-from c from stop h; left = a }

gaps-from : (c : ℕ) (ps xs : List Prefix) → All (λ q. c ≤ q.network) ps → All (λ x. c ≤ end x) xs → All (λ (g : Gap). c ≤ g.from) (gaps_of ps xs)
gaps-from c [] xs a b = tt
gaps-from c (p ∷ ps) xs a b =
    let k = pool-from c p.network (end p) xs a.0 b in
    all_append (λ (g : Gap). c ≤ g.from) (pool_gaps p.network (end p) xs).gaps (gaps_of ps (pool_gaps p.network (end p) xs).left) k.gaps
    (gaps-from c ps (pool_gaps p.network (end p) xs).left a.1 k.left)

at_from : (c from stop : ℕ) (ps xs : List Prefix) → c ≤ from → All (λ q. c ≤ q.network) ps → All (λ x. c ≤ end x) xs → All (λ (g : Gap). c ≤ g.from) (gaps_at from stop ps xs)
at_from c from stop ps xs h a b =
    let k = pool-from c from stop xs h b in
    all_append (λ (g : Gap). c ≤ g.from) (pool_gaps from stop xs).gaps (gaps_of ps (pool_gaps from stop xs).left) k.gaps
    (gaps-from c ps (pool_gaps from stop xs).left a k.left)

-- Past the end of a pool its last gap comes, and then the other pools.
walk-past : (from stop : ℕ) (ps xs : List Prefix) → All (λ x. stop ≤ x.network) xs → gaps_at from stop ps xs ≡ between from stop ++ gaps_of ps xs
walk-past from stop ps [] a = refl
walk-past from stop ps (x ∷ xs) a = walk-pool from stop ps x xs a.0

module _ (p : Prefix) where
  lies-from : (c i : ℕ) (gs : List Gap) → All (λ (g : Gap). c ≤ g.from) gs → LiesIn p i gs → c ≤ p.network
  lies-from c i [] a k = absurd k
  lies-from c zero (g ∷ gs) a k = omega (arith, a.0, k.0)
  lies-from c (suc i) (g ∷ gs) a k = lies-from c i gs a.1 k

  -- Where p lies: in the gap from a to b, or in one of the rest.
  record First (a b i : ℕ) (rest : List Gap) : Type 0 where
    low : a ≤ p.network
    high : end p ≤ b
    split : without p i (between a b ++ rest) ≡ between a p.network ++ (between (end p) b ++ rest)

  record Later (a b i : ℕ) (rest : List Gap) : Type 0 where
    index : ℕ
    lies : LiesIn p index rest
    split : without p i (between a b ++ rest) ≡ between a b ++ without p index rest

  lies_where : (a b i : ℕ) (rest : List Gap) → LiesIn p i (between a b ++ rest) → First a b i rest ⊎ Later a b i rest
  lies_where a b i rest k =
      ⊎_elim
      (λ (t : ltb a b ≡ true).
      let e = between-some a b (ltb-true a b t) in
      some i e (subst (λ (gs : List Gap). LiesIn p i (gs ++ rest)) e k))
      (λ (t : ltb a b ≡ false).
      let e = between_none a b (ltb-false a b t) in
      inr (record {
        index = i;
        lies = subst (λ (gs : List Gap). LiesIn p i (gs ++ rest)) e k;
        split = ap (λ (gs : List Gap). without p i (gs ++ rest)) e ∙ sym (ap (λ (gs : List Gap). gs ++ without p i rest) e);
      }))
      (bool_cases (ltb a b))
    where
      some : (i : ℕ) → between a b ≡ record { from = a; to = b } ∷ [] → LiesIn p i (record { from = a; to = b } ∷ rest) → First a b i rest ⊎ Later a b i rest
      some zero e k = inl (record { low = k.0; high = k.1; split = ap (λ (gs : List Gap). without p zero (gs ++ rest)) e })
      some (suc i) e k =
          inr (record {
            index = i;
            lies = k;
            split = ap (λ (gs : List Gap). without p (suc i) (gs ++ rest)) e ∙ sym (ap (λ (gs : List Gap). gs ++ without p i rest) e);
          })

  -- Before the first, if it ends there.
  insert-ahead : (xs : List Prefix) → All (λ x. end p ≤ x.network) xs → insert_by network_of p xs ≡ p ∷ xs
  unfolding insert_by
  insert-ahead [] a = refl
  insert-ahead (x ∷ xs) a = insert_by-before network_of p x xs (lt-ltb p.network x.network (omega (arith, a.0, size-positive p.length)))

  module _ (ps : List Prefix) (rec : (xs : List Prefix) → Pairwise Before xs → (i : ℕ) → LiesIn p i (gaps_of ps xs) → gaps_of ps (insert_by network_of p xs) ≡ without p i (gaps_of ps xs)) where
    -- Past the end of a pool.
    past_split : (from stop : ℕ) (xs : List Prefix) → All (λ q. stop ≤ q.network) ps → All (λ x. stop ≤ x.network) xs → Pairwise Before xs → (i : ℕ) → LiesIn p i (gaps_at from stop ps xs)
        → gaps_at from stop ps (insert_by network_of p xs) ≡ without p i (gaps_at from stop ps xs)
    past_split from stop xs above past ascend i k =
        let e = walk-past from stop ps xs past in
        ⊎_elim
        (λ (f : First from stop i (gaps_of ps xs)).
        let ahead : insert_by network_of p xs ≡ p ∷ xs = insert-ahead xs (all_map (λ (x : Prefix) (h : stop ≤ x.network). omega (arith, f.high)) xs past) in
        ap (gaps_at from stop ps) ahead
        ∙ walk-lease from stop ps p xs (omega (arith, f.high, size-positive p.length))
        ∙ ap (λ (gs : List Gap). between from p.network ++ gs) (walk-past (end p) stop ps xs past)
        ∙ sym (ap (without p i) e ∙ f.split))
        (λ (f : Later from stop i (gaps_of ps xs)).
        let low : stop ≤ p.network = lies-from stop f.index (gaps_of ps xs) (gaps-from stop ps xs above (all_map (λ (x : Prefix) (h : stop ≤ x.network). omega arith) xs past)) f.lies in
        walk-past from stop ps (insert_by network_of p xs) (insert_by-all network_of (λ x. stop ≤ x.network) p xs low past)
        ∙ ap (λ (gs : List Gap). between from stop ++ gs) (rec xs ascend f.index f.lies)
        ∙ sym (ap (without p i) e ∙ f.split))
        (lies_where from stop i (gaps_of ps xs) (subst (LiesIn p i) e k))

    at_split : (xs : List Prefix) (from stop : ℕ) → All (λ q. stop ≤ q.network) ps → Pairwise Before xs → (i : ℕ) → LiesIn p i (gaps_at from stop ps xs)
        → gaps_at from stop ps (insert_by network_of p xs) ≡ without p i (gaps_at from stop ps xs)
    at_split [] from stop above ascend i k = past_split from stop [] above tt tt i k
    at_split (x ∷ xs) from stop above ascend i k =
        ⊎_elim
        (λ (t : ltb x.network stop ≡ true). inside (ltb-true x.network stop t) (λ j. at_split xs (end x) stop above ascend.1 j))
        (λ (t : ltb x.network stop ≡ false).
        let h : stop ≤ x.network = ltb-false x.network stop t in
        past_split from stop (x ∷ xs) above (h, all_map (λ (y : Prefix) (b : Before x y). omega arith) xs ascend.0) ascend i k)
        (bool_cases (ltb x.network stop))
      where
        inside : x.network < stop → ((j : ℕ) → LiesIn p j (gaps_at (end x) stop ps xs) → gaps_at (end x) stop ps (insert_by network_of p xs) ≡ without p j (gaps_at (end x) stop ps xs))
            → gaps_at from stop ps (insert_by network_of p (x ∷ xs)) ≡ without p i (gaps_at from stop ps (x ∷ xs))
        inside h later =
            let rest : List Gap = gaps_at (end x) stop ps xs in
            let e : gaps_at from stop ps (x ∷ xs) ≡ between from x.network ++ rest = walk-lease from stop ps x xs h in
            ⊎_elim
            (λ (f : First from x.network i rest).
            let before : p.network < x.network = omega (arith, f.high, size-positive p.length) in
            ap (gaps_at from stop ps) (insert_by-before network_of p x xs (lt-ltb p.network x.network before))
            ∙ walk-lease from stop ps p (x ∷ xs) (omega arith)
            ∙ ap (λ (gs : List Gap). between from p.network ++ gs) (walk-lease (end p) stop ps x xs h)
            ∙ sym (ap (without p i) e ∙ f.split))
            (λ (f : Later from x.network i rest).
            let after : x.network ≤ p.network =
            lies-from x.network f.index rest
            (at_from x.network (end x) stop ps xs (omega arith) (all_map (λ (q : Prefix) (b : stop ≤ q.network). omega arith) ps above)
            (all_map (λ (y : Prefix) (b : Before x y). omega arith) xs ascend.0)) f.lies in
            ap (gaps_at from stop ps) (insert_by-after network_of p x xs (le-ltb p.network x.network after))
            ∙ walk-lease from stop ps x (insert_by network_of p xs) h
            ∙ ap (λ (gs : List Gap). between from x.network ++ gs) (later f.index f.lies)
            ∙ sym (ap (without p i) e ∙ f.split))
            (lies_where from x.network i rest (subst (LiesIn p i) e k))

  -- SPLIT: with one lease more, in gap i, that gap is what is left of it on both sides.
  pub gaps-split : (ps xs : List Prefix) → Pairwise Before ps → Pairwise Before xs → (i : ℕ) → LiesIn p i (gaps_of ps xs) → gaps_of ps (insert_by network_of p xs) ≡ without p i (gaps_of ps xs)
  gaps-split [] xs a b i k = absurd k
  gaps-split (q ∷ ps) xs a b i k = at_split ps (λ ys c j. gaps-split ps ys a.1 c j) xs q.network (end q) a.0 b i k
