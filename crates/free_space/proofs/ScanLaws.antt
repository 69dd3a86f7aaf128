-- The scan through pools and leases finds what `best` does.
-- Assumes nothing.
use Prim.Native.Nat.{ℕ, ◌+◌, ◌-◌, ◌≤◌, ◌<◌}
use mathlib.Core.Path.{◌≡◌, refl, sym, subst, ◌∙◌}
use mathlib.Core.Logic.{◌⊎◌, inl, inr, ⊎_elim, by_cases}
use mathlib.Core.Bool.{Bool, true, false, cond}
use mathlib.Core.List.{List, [], ◌∷◌, ◌++◌, append_assoc}
use mathlib.Core.Option.{Option, none, some}
use native.Mathlib.Nat.{le_refl}
use native.Mathlib.Decide.{dec_le}
use native.Mathlib.Omega.{arith}
use lib.Dec.{ltb}
use borrow.Author.Tests.{ltb-true, ltb-false}
use Rattle.lists.specs.Lists.{All, Any, Pairwise}
use Rattle.lists.proofs.ListLaws.{all_map, all-map₂, all_append, all_right, all-every, any-map, any-right, any_append, any-all, holds-map}
use Rattle.prefix.specs.declared.Prefix.{Prefix}
use Rattle.prefix.specs.Prefixes.{end, Inside, Apart}
use Rattle.prefix.proofs.PrefixLaws.{size-positive}
use Rattle.free_space.specs.Space.{Free, Whole}
use Rattle.free_space.specs.Grant.{wholes, best}
use Rattle.free_space.specs.Serving.{Length, Before, Ordered}
use Rattle.free_space.specs.Scan.{length_of, in_gap, Scan, in_pool, in_pools}
use Rattle.free_space.proofs.BestLaws.{Best, best-unique}
use Rattle.free_space.proofs.Rules.{wholes-whole, wholes-exactly}
use Rattle.free_space.proofs.GapLaws.{Beats, Edge, Clear, Below, below-keep, gap_below}

-- The prefixes `xs` are left of `all` at an address c: those before them end there at the latest, and they ascend from there on.
record Reached (all : List Prefix) (c : ℕ) (xs : List Prefix) : Type 0 where
  done : List Prefix
  split : all ≡ done ++ xs
  over : All (λ x. end x ≤ c) done
  next : All (λ x. c ≤ x.network) xs
  ascend : Pairwise Before xs

module _ (all : List Prefix) (c : ℕ) where
  reached-all : (P : Prefix → Type 0) (xs : List Prefix) → Reached all c xs → ((x : Prefix) → end x ≤ c → P x) → All P xs → All P all
  reached-all P xs r f a = subst (All P) (sym r.split) (all_append P r.done xs (all_map f r.done r.over) a)

  reached-left : (P : Prefix → Type 0) (xs : List Prefix) → Reached all c xs → All P all → All P xs
  reached-left P xs r a = all_right P r.done xs (subst (All P) r.split a)

  -- One of them ends at c at the latest, or is left.
  reached-any : (P : Prefix → Type 0) (xs : List Prefix) → Reached all c xs → Any P all → ((x : Prefix) × P x × (end x ≤ c)) ⊎ Any P xs
  reached-any P xs r a =
      ⊎_elim (λ k. inl (any-all r.done k r.over)) inr (any_append P r.done xs (subst (Any P) r.split a))

  -- The address may move on up to the next one, and over it.
  reached-on : (d : ℕ) (xs : List Prefix) → c ≤ d → All (λ x. d ≤ x.network) xs → Reached all c xs → Reached all d xs
  reached-on d xs h a r = record {
    done = r.done;
    split = r.split;
    over = all_map (λ x k. omega arith) r.done r.over;
    next = a;
    ascend = r.ascend;
  }

  reached-over : (x : Prefix) (xs : List Prefix) → Reached all c (x ∷ xs) → Reached all (end x) xs
  reached-over x xs r = record {
    done = r.done ++ (x ∷ []);
    split = r.split ∙ sym (append_assoc r.done (x ∷ []) xs);
    over =
        all_append (λ y. end y ≤ end x) r.done (x ∷ [])
        (all_map (λ y k. omega (arith, r.next.0)) r.done r.over) (le_refl (end x), tt);
    next = r.ascend.0;
    ascend = r.ascend.1;
  }

module _ (pools leases : List Prefix) (ordered : Ordered pools leases) (l : ℕ) (block : Length l) where
  short : (c : ℕ) (found : Option Prefix) → Below pools leases ordered.good l block c found → length_of found ≤ l
  short c none k = omega arith
  short c (some v) k = k.is.1

  -- one pool

  -- What is known of the pool p that is scanned.
  record Current (p : Prefix) : Type 0 where
    member : Any (λ q. q ≡ p) pools
    edge : Edge pools leases ordered.good l block (end p)
    holds : (x : Prefix) → Any (Inside x) pools → p.network ≤ x.network → x.network < end p → end x ≤ end p

  module _ (p : Prefix) (current : Current p) where
    -- From the cursor to an address before the next lease everything in the pool is free.
    clear-to : (c b : ℕ) (xs : List Prefix) → p.network ≤ c → b ≤ end p → Reached leases c xs → All (λ x. b ≤ x.network) xs → Clear pools leases ordered.good l block c b
    clear-to c b xs low high r later x u h t = record {
      aligned = u;
      pooled = any-map (λ q e. subst (Inside x) (sym e) (omega arith)) pools current.member;
      unused = reached-all leases c (Apart x) xs r (λ y e. inr (omega arith)) (all_map (λ y e. inl (omega arith)) xs later);
    }

    gap : (c b : ℕ) (xs : List Prefix) (found : Option Prefix) → p.network ≤ c → c ≤ b → b ≤ end p → Reached leases c xs → All (λ x. b ≤ x.network) xs
        → Edge pools leases ordered.good l block c → Edge pools leases ordered.good l block b → Below pools leases ordered.good l block c found
        → Below pools leases ordered.good l block b (in_gap l found c b)
    gap c b xs found low h high r later e_c e_b k =
        gap_below pools leases ordered.good l block c b h e_c e_b (clear-to c b xs low high r later) found (short c found k) k

    record Scanned (s : Scan) : Type 0 where
      below : Below pools leases ordered.good l block (end p) s.best
      reached : Reached leases (end p) s.left

    -- No free prefix shares an address with the next lease.
    beside : (c : ℕ) (x : Prefix) (xs : List Prefix) → Reached leases c (x ∷ xs) → (w : Prefix) → Free pools leases w → Apart w x
    beside c x xs r w f = (reached-left leases c (Apart w) (x ∷ xs) r f.unused).0

    scan-pool : (xs : List Prefix) (c : ℕ) (found : Option Prefix) → p.network ≤ c → c ≤ end p → Reached leases c xs
        → Edge pools leases ordered.good l block c → Below pools leases ordered.good l block c found → Scanned (in_pool l found c (end p) xs)
    scan-pool [] c found low high r e_c k = record {
      below = gap c (end p) [] found low high (le_refl (end p)) r tt e_c current.edge k;
      reached = reached-on leases c (end p) [] high tt r;
    }
    scan-pool (x ∷ xs) c found low high r e_c k =
        go (ltb x.network (end p)) refl
        (λ h.
        let at : Edge pools leases ordered.good l block x.network =
        λ w f. ⊎_elim inl (λ e. inr (omega (arith, e))) (beside c x xs r w f) in
        let later : All (λ y. x.network ≤ y.network) (x ∷ xs) = (le_refl x.network, all_map (λ y e. omega (arith, e)) xs r.ascend.0) in
        let first = gap c x.network (x ∷ xs) found low r.next.0 (omega arith) r later e_c at k in
        scan-pool xs (end x) (in_gap l found c x.network) (omega (arith, r.next.0))
        (current.holds x (reached-left leases c (λ y. Any (Inside y) pools) (x ∷ xs) r ordered.pooled).0 (omega (arith, r.next.0)) h)
        (reached-over leases c x xs r)
        (λ w f. ⊎_elim (λ e. inl (omega (arith, e))) inr (beside c x xs r w f))
        (below-keep pools leases ordered.good l block x.network (end x) (in_gap l found c x.network) (omega arith)
        (λ w t. absurd (⊎_elim (λ e. omega (arith, e, t.from, size-positive w.length)) (λ e. omega (arith, e, t.below)) (beside c x xs r w t.whole.free))) first))
      where
        go : (t : Bool) → ltb x.network (end p) ≡ t → (x.network < end p → Scanned (in_pool l (in_gap l found c x.network) (end x) (end p) xs))
            → Scanned (cond t (in_pool l (in_gap l found c x.network) (end x) (end p) xs) (record { best = in_gap l found c (end p); left = x ∷ xs }))
        go true e rec = rec (ltb-true _ _ e)
        go false e rec =
            let h : end p ≤ x.network = ltb-false _ _ e in
            let later : All (λ y. end p ≤ y.network) (x ∷ xs) = (h, all_map (λ y d. omega (arith, d)) xs r.ascend.0) in
            record {
              below = gap c (end p) (x ∷ xs) found low high (le_refl (end p)) r later e_c current.edge k;
              reached = reached-on leases c (end p) (x ∷ xs) high later r;
            }

  -- all pools

  -- A free prefix lies before c, or in one of the pools that are left.
  where-free : (c : ℕ) (ps : List Prefix) → Reached pools c ps → (x : Prefix) → Any (Inside x) pools → (end x ≤ c) ⊎ Any (Inside x) ps
  where-free c ps r x a = ⊎_elim (λ t. inl (omega (arith, t.1, t.2))) inr (reached-any pools c (Inside x) ps r a)

  later : (p : Prefix) (ps : List Prefix) → All (Before p) ps → (x : Prefix) → Any (Inside x) (p ∷ ps) → Inside x p ⊎ (end p ≤ x.network)
  later p ps a x (inl i) = inl i
  later p ps a x (inr i) = let t = any-all ps i a in inr (omega (arith, t.1, t.2))

  module _ (c : ℕ) (p : Prefix) (ps : List Prefix) (r : Reached pools c (p ∷ ps)) where
    -- Before the pool, in it, or after it.
    place : (x : Prefix) → Any (Inside x) pools → (end x ≤ c) ⊎ (Inside x p ⊎ (end p ≤ x.network))
    place x a = ⊎_elim inl (λ k. inr (later p ps r.ascend.0 x k)) (where-free c (p ∷ ps) r x a)

    current : Current p
    current = record {
      member = subst (Any (λ q. q ≡ p)) (sym r.split) (any-right (λ q. q ≡ p) r.done (p ∷ ps) (inl refl));
      edge = λ x f. ⊎_elim (λ h. inl (omega (arith, h, r.next.0))) (⊎_elim (λ i. inl i.1) inr) (place x f.pooled);
      holds = λ x a low high.
          ⊎_elim (λ h. absurd (omega (arith, h, r.next.0, size-positive x.length)))
          (⊎_elim (λ i. i.1) (λ h. absurd (omega (arith, h)))) (place x a);
    }

    start-edge : Edge pools leases ordered.good l block p.network
    start-edge x f = ⊎_elim (λ h. inl (omega (arith, h, r.next.0))) (⊎_elim (λ i. inr i.0) (λ h. inr (omega (arith, h)))) (place x f.pooled)

    start-below : (found : Option Prefix) → Below pools leases ordered.good l block c found → Below pools leases ordered.good l block p.network found
    start-below found =
        below-keep pools leases ordered.good l block c p.network found r.next.0
        (λ w t. absurd (⊎_elim (λ h. omega (arith, h, t.from, size-positive w.length))
        (⊎_elim (λ i. omega (arith, i.0, t.below)) (λ h. omega (arith, h, t.below))) (place w t.whole.free.pooled)))

    start-reached : (xs : List Prefix) → Reached leases c xs → Reached leases p.network xs
    start-reached xs q =
        reached-on leases c p.network xs r.next.0
        (all-map₂ (λ x a h. ⊎_elim (λ e. absurd (omega (arith, e, h, size-positive x.length))) (⊎_elim (λ i. i.0) (λ e. omega (arith, e))) (place x a)) xs
        (reached-left leases c (λ x. Any (Inside x) pools) xs q ordered.pooled) q.next)
        q

  -- Past the last pool nothing is free.
  scan-end : (c : ℕ) (found : Option Prefix) → Reached pools c [] → Below pools leases ordered.good l block c found → best l (wholes pools leases) ≡ found
  scan-end c found r k =
      best-unique l (wholes pools leases) found
      (is-best found k) (holds-map (λ v t. (wholes-exactly pools ordered.good leases v).1 t.0) found k.is)
    where
      beaten : (found : Option Prefix) → Below pools leases ordered.good l block c found → (w : Prefix) → Whole pools leases w → w.length ≤ l → Beats found w
      beaten found k w u q =
          ⊎_elim
          (λ h. absurd (⊎_elim (λ e. omega (arith, e, h, size-positive w.length)) (λ e. e) (where-free c [] r w u.free.pooled)))
          (λ b. b) (k.all w u q)

      is-best : (found : Option Prefix) → Below pools leases ordered.good l block c found → Best l (wholes pools leases) found
      is-best none k =
          all_map (λ w u. by_cases (dec_le w.length l) (λ q. absurd (beaten none k w u q)) (λ q. omega arith)) (wholes pools leases) (wholes-whole pools leases ordered.good)
      is-best (some v) k =
          (k.is.1, all_map (λ w u q. beaten (some v) k w u q) (wholes pools leases) (wholes-whole pools leases ordered.good))

  scan-pools : (ps xs : List Prefix) (c : ℕ) (found : Option Prefix) → Reached pools c ps → Reached leases c xs → Below pools leases ordered.good l block c found
      → best l (wholes pools leases) ≡ in_pools l found ps xs
  scan-pools [] xs c found r q k = scan-end c found r k
  scan-pools (p ∷ ps) xs c found r q k =
      let s = scan-pool p (current c p ps r) xs p.network found (le_refl p.network) (omega arith) (start-reached c p ps r xs q) (start-edge c p ps r) (start-below c p ps r found k) in
      scan-pools ps (in_pool l found p.network (end p) xs).left (end p) (in_pool l found p.network (end p) xs).best (reached-over pools c p ps r) s.reached s.below

  -- The scan finds the best whole free prefix.
  pub scan-best : best l (wholes pools leases) ≡ in_pools l none pools leases
  scan-best =
      scan-pools pools leases 0 none
      (record { done = []; split = refl; over = tt; next = all-every (λ x. omega arith) pools; ascend = ordered.pools_ascend })
      (record { done = []; split = refl; over = tt; next = all-every (λ x. omega arith) leases; ascend = ordered.leases_ascend })
      (record { is = tt; all = λ w u q. inl (omega arith) })
