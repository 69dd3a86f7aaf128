-- Laws of a pass through the pools and the leases of an image: the gaps that it has pushed and those that it has yet to come to are all of them.
-- Assumes nothing.
use Prim.Native.Nat.{ℕ, ◌+◌, ◌*◌, ◌≤◌, ◌<◌}
use mathlib.Core.Path.{◌≡◌, refl, sym, ap, ap₂, subst, ◌∙◌}
use mathlib.Core.List.{List, [], ◌∷◌, ◌++◌, map, append-nil, append_assoc}
use native.Mathlib.Omega.{arith}
use lib.ListN.{length, drop, get_or}
use Rattle.lists.proofs.DropLaws.{drop_at, drop-end}
use Rattle.prefix.specs.declared.Prefix.{Prefix}
use Rattle.prefix.specs.Prefixes.{prefix, end}
use Rattle.table.specs.declared.Lease.{Lease}
use Rattle.table.specs.Table.{no_lease, prefix_of, present}
use Rattle.table.proofs.TableLaws.{present-yes, present-no}
use Rattle.image.specs.Image.{lease_size, head_size}
use Rattle.image.specs.Reading.{lease_in}
use Rattle.image_check.specs.Inner.{nth_pool}
use Rattle.image_records.specs.Records.{Records}
use Rattle.image_records.proofs.RecordLaws.{lease-in-place}
use Rattle.gap_list.specs.declared.Ends.{Ends}
use Rattle.gap_list.specs.Gaps.{Gap, between, PoolGaps, pool_gaps, gaps_of}
use Rattle.gap_list.specs.Columns.{held_in, Kept}
use Rattle.gap_list.proofs.FitLaws.{pool-lease, pool-past}
use Rattle.ask_gaps.specs.declared.Pass.{Pass}
use Rattle.ask_gaps.specs.Ground.{ahead, Ground}
use Rattle.ask_gaps.specs.InnerPass.{Went}

-- THE LEASES AHEAD

module _ (time : ℕ) (xs : List Lease) (i : ℕ) (lt : i < length xs) (x : Lease) (is : x ≡ get_or xs i no_lease) where
  next : drop i xs ≡ x ∷ drop (i + 1) xs
  next = drop_at xs i no_lease lt ∙ ap (λ (y : Lease). y ∷ drop (i + 1) xs) (sym is)

  ahead-present : time < x.expires → ahead time i xs ≡ prefix_of x ∷ ahead time (i + 1) xs
  unfolding present
  ahead-present h = ap (λ (ys : List Lease). map prefix_of (present time ys)) next ∙ ap (map prefix_of) (present-yes time x (drop (i + 1) xs) h)

  ahead-expired : x.expires ≤ time → ahead time i xs ≡ ahead time (i + 1) xs
  unfolding present
  ahead-expired h = ap (λ (ys : List Lease). map prefix_of (present time ys)) next ∙ ap (map prefix_of) (present-no time x (drop (i + 1) xs) h)

ahead_none : (time : ℕ) (xs : List Lease) (i : ℕ) → length xs ≤ i → ahead time i xs ≡ []
unfolding present
ahead_none time xs i past = ap (λ (ys : List Lease). map prefix_of (present time ys)) (drop-end xs i past)

-- THE GAPS OF A POOL

module _ (image : List ℕ) (from n time network stop : ℕ) (p : Pass) (before : List Ends) where
  abbrev whole : List Lease → PoolGaps
  whole xs = pool_gaps network stop (ahead time p.leases xs)

  -- A pass stands at an address of the pool before the i-th lease, with so many gaps pushed.
  pub record Walked (cursor g i : ℕ) (es : List Ends) : Type 0 where
    pub gaps : (xs : List Lease) → Records image from xs → n ≡ length xs → held_in es g ++ (pool_gaps cursor stop (ahead time i xs)).gaps ≡ held_in before p.gaps ++ (whole xs).gaps
    pub left : (xs : List Lease) → Records image from xs → n ≡ length xs → (pool_gaps cursor stop (ahead time i xs)).left ≡ (whole xs).left

  pub walked_none : Walked network p.gaps p.leases before
  walked_none = record { gaps = λ xs r e. refl; left = λ xs r e. refl }

  module _ (cursor g i : ℕ) (es : List Ends) (w : Walked cursor g i es) where
    module _ (lt : i < n) (x : Lease) (read : x ≡ lease_in (drop (from + lease_size * i) image)) where
      it-is : (xs : List Lease) → Records image from xs → n ≡ length xs → x ≡ get_or xs i no_lease
      it-is xs r e = read ∙ lease-in-place image from xs r i (omega arith)

      pub walked-expired : x.expires ≤ time → Walked cursor g (i + 1) es
      walked-expired h = record {
        gaps = λ xs r e. subst (λ (qs : List Prefix). held_in es g ++ (pool_gaps cursor stop qs).gaps ≡ held_in before p.gaps ++ (whole xs).gaps)
            (ahead-expired time xs i (omega arith) x (it-is xs r e) h) (w.gaps xs r e);
        left = λ xs r e. subst (λ (qs : List Prefix). (pool_gaps cursor stop qs).left ≡ (whole xs).left)
            (ahead-expired time xs i (omega arith) x (it-is xs r e) h) (w.left xs r e);
      }

      module _ (stays : time < x.expires) (g₁ : ℕ) (es₁ : List Ends) where
        pub walked-lease : x.network < stop → Kept g (held_in es g ++ between cursor x.network) g₁ es₁ → Walked (end (prefix_of x)) g₁ (i + 1) es₁
        walked-lease h kept = record {
          gaps = λ xs r e.
              let rest : List Prefix = ahead time (i + 1) xs in
              let here : (pool_gaps cursor stop (ahead time i xs)).gaps ≡ between cursor x.network ++ (pool_gaps (end (prefix_of x)) stop rest).gaps =
              ap (λ (qs : List Prefix). (pool_gaps cursor stop qs).gaps) (ahead-present time xs i (omega arith) x (it-is xs r e) stays) ∙ ap (λ (s : PoolGaps). s.gaps) (pool-lease cursor stop (prefix_of x) rest h) in
              ap (λ (hs : List Gap). hs ++ (pool_gaps (end (prefix_of x)) stop rest).gaps) kept.gaps
              ∙ append_assoc (held_in es g) (between cursor x.network) (pool_gaps (end (prefix_of x)) stop rest).gaps
              ∙ ap (λ (hs : List Gap). held_in es g ++ hs) (sym here)
              ∙ w.gaps xs r e;
          left = λ xs r e.
              let rest : List Prefix = ahead time (i + 1) xs in
              sym (ap (λ (qs : List Prefix). (pool_gaps cursor stop qs).left) (ahead-present time xs i (omega arith) x (it-is xs r e) stays) ∙ ap (λ (s : PoolGaps). s.left) (pool-lease cursor stop (prefix_of x) rest h))
              ∙ w.left xs r e;
        }

        -- The pool ends before the next lease.
        pub walked-past : p.leases ≤ i → g + p.leases ≤ p.gaps + i → stop ≤ x.network → Kept g (held_in es g ++ between cursor stop) g₁ es₁
            → Went image from n time network stop p before (record { leases = i; gaps = g₁ }) es₁
        walked-past on few h kept = record {
          further = on;
          within = omega arith;
          few = omega (arith, kept.few);
          gaps = λ xs r e.
              let rest : List Prefix = ahead time (i + 1) xs in
              let here : (pool_gaps cursor stop (ahead time i xs)).gaps ≡ between cursor stop =
              ap (λ (qs : List Prefix). (pool_gaps cursor stop qs).gaps) (ahead-present time xs i (omega arith) x (it-is xs r e) stays) ∙ ap (λ (s : PoolGaps). s.gaps) (pool-past cursor stop (prefix_of x) rest h) in
              kept.gaps ∙ ap (λ (hs : List Gap). held_in es g ++ hs) (sym here) ∙ w.gaps xs r e;
          left = λ xs r e.
              let rest : List Prefix = ahead time (i + 1) xs in
              let at-it : ahead time i xs ≡ prefix_of x ∷ rest = ahead-present time xs i (omega arith) x (it-is xs r e) stays in
              at-it ∙ sym (ap (λ (qs : List Prefix). (pool_gaps cursor stop qs).left) at-it ∙ ap (λ (s : PoolGaps). s.left) (pool-past cursor stop (prefix_of x) rest h)) ∙ w.left xs r e;
        }

    -- No lease is left.
    pub walked_all : n ≤ i → i ≤ n → p.leases ≤ i → g + p.leases ≤ p.gaps + i → (g₁ : ℕ) (es₁ : List Ends) → Kept g (held_in es g ++ between cursor stop) g₁ es₁
        → Went image from n time network stop p before (record { leases = n; gaps = g₁ }) es₁
    walked_all past up_to on few g₁ es₁ kept = record {
      further = omega arith;
      within = omega arith;
      few = omega (arith, kept.few);
      gaps = λ xs r e.
          kept.gaps ∙ ap (λ (qs : List Prefix). held_in es g ++ (pool_gaps cursor stop qs).gaps) (sym (ahead_none time xs i (omega arith))) ∙ w.gaps xs r e;
      left = λ xs r e.
          ahead_none time xs n (omega arith) ∙ ap (λ (qs : List Prefix). (pool_gaps cursor stop qs).left) (sym (ahead_none time xs i (omega arith))) ∙ w.left xs r e;
    }

-- ALL POOLS

module _ (image : List ℕ) (pool pools from leases time : ℕ) where
  -- After k pools: the gaps so far, and those of the pools and leases that are left, are all.
  pub Passed : ℕ → Pass → List Ends → Type 0
  Passed k p es = (ps : List Prefix) (xs : List Lease) → Ground image pool pools from leases ps xs
      → held_in es p.gaps ++ gaps_of (drop k ps) (ahead time p.leases xs) ≡ gaps_of ps (ahead time 0 xs)

  pub passed_none : (es : List Ends) → Passed 0 (record { leases = 0; gaps = 0 }) es
  unfolding Passed
  passed_none es ps xs area = refl

  module _ (k : ℕ) (p : Pass) (es : List Ends) (passed : Passed k p es) where
    pub passed-pool : k < pools → (q : Pass) (es₁ : List Ends) (here : Prefix) → here ≡ nth_pool (drop head_size image) (pool + k)
        → Went image from leases time here.network (end here) p es q es₁ → Passed (k + 1) q es₁
    unfolding Passed
    passed-pool lt q es₁ here is went ps xs area =
        let it : here ≡ get_or ps k (prefix 0 0) = is ∙ area.pool-at k (omega (arith, area.pools-are)) in
        let s : PoolGaps = pool_gaps here.network (end here) (ahead time p.leases xs) in
        let rest : List Prefix = drop (k + 1) ps in
        let pools-left : drop k ps ≡ here ∷ rest = drop_at ps k (prefix 0 0) (omega (arith, area.pools-are)) ∙ ap (λ (y : Prefix). y ∷ rest) (sym it) in
        ap₂ (λ (hs : List Gap) (qs : List Prefix). hs ++ gaps_of rest qs) (went.gaps xs area.leases-at area.leases-are) (went.left xs area.leases-at area.leases-are)
        ∙ append_assoc (held_in es p.gaps) s.gaps (gaps_of rest s.left)
        ∙ ap (λ (qs : List Prefix). held_in es p.gaps ++ gaps_of qs (ahead time p.leases xs)) (sym pools-left)
        ∙ passed ps xs area

    pub passed-all : pools ≤ k → (ps : List Prefix) (xs : List Lease) → Ground image pool pools from leases ps xs → held_in es p.gaps ≡ gaps_of ps (ahead time 0 xs)
    unfolding Passed
    passed-all past ps xs area =
        sym (append-nil (held_in es p.gaps))
        ∙ ap (λ (qs : List Prefix). held_in es p.gaps ++ gaps_of qs (ahead time p.leases xs)) (sym (drop-end ps k (omega (arith, area.pools-are))))
        ∙ passed ps xs area
