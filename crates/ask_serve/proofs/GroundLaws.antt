-- Laws of the ground of a call that requests are served on: its pools ascend and are some of the table's, and each lease lies in one of them or shares no address
-- with any; what is granted on it comes to the leases on it.
-- Assumes nothing.
use Prim.Native.Nat.{ℕ, ◌≤◌, ◌<◌}
use mathlib.Core.Path.{◌≡◌, refl, sym, ap, subst, ◌∙◌}
use mathlib.Core.Logic.{◌⊎◌, ⊎_elim}
use mathlib.Core.Bool.{Bool, true, false}
use mathlib.Core.List.{List, [], ◌∷◌, map}
use mathlib.Core.Option.{Option, none, some}
use native.Mathlib.Omega.{arith}
use lib.Dec.{ltb}
use borrow.Author.Tests.{ltb-true, lt-ltb}
use Rattle.lists.specs.Lists.{All, Any, Pairwise, any?, filter, insert_by}
use Rattle.lists.specs.Properties.{Sorted}
use Rattle.lists.proofs.Tests.{bool_cases, any?-of, any?-to}
use Rattle.lists.proofs.ListLaws.{all_map, all-image, all-preimage, all-every, pairwise_map, pairwise_image}
use Rattle.lists.proofs.FilterLaws.{filter-yes, filter-no, filter-all, filter-whole, filter-pass}
use Rattle.lists.proofs.SortingLaws.{insert_by-before, insert_by-after, insert_by-image}
use Rattle.prefix.specs.declared.Prefix.{Prefix}
use Rattle.prefix.specs.Prefixes.{Inside, Apart, inside?}
use Rattle.prefix.proofs.PrefixLaws.{inside_of, inside-to}
use Rattle.free_space.specs.Serving.{Before, Ordered}
use Rattle.free_space.proofs.WithinLaws.{parted-part}
use Rattle.option.specs.Reading.{four}
use Rattle.table.specs.declared.{Pool.Pool, Lease.Lease, LeaseTable.LeaseTable}
use Rattle.table.specs.Table.{pool_prefix, prefix_of, network_of, unused?, prefixes_of, pools_of, sound, insert}
use Rattle.table.proofs.Ascending.{used}
use Rattle.table.proofs.TableLaws.{Fine}
use Rattle.ledger.specs.Ledger.{Call, contains?, narrowed_to, narrowed, on_ground, usable_leases}
use Rattle.ledger.proofs.GroundLaws.{ground-filtered, area}
use Rattle.ledger.proofs.OfferLaws.{ordered}
use Rattle.ask_serve.specs.InnerServing.{within}

-- LISTS

pairwise-filter : {A : Type 0} (f : A → Bool) (R : A → A → Type 0) (xs : List A) → Pairwise R xs → Pairwise R (filter f xs)
pairwise-filter f R [] a = tt
pairwise-filter f R (x ∷ xs) a =
    ⊎_elim
    (λ (e : f x ≡ true). subst (Pairwise R) (sym (filter-yes f x xs e)) (filter-all f (R x) xs a.0, pairwise-filter f R xs a.1))
    (λ (e : f x ≡ false). subst (Pairwise R) (sym (filter-no f x xs e)) (pairwise-filter f R xs a.1))
    (bool_cases (f x))

pairwise-preimage : {A B : Type 0} (f : A → B) (R : B → B → Type 0) (xs : List A) → Pairwise R (map f xs) → Pairwise (λ x y. R (f x) (f y)) xs
pairwise-preimage f R [] a = tt
pairwise-preimage f R (x ∷ xs) a = (all-preimage f (R (f x)) xs a.0, pairwise-preimage f R xs a.1)

-- The images that pass are the images of those whose image passes.
filter-image : {A B : Type 0} (f : A → B) (p : B → Bool) (xs : List A) → map f (filter (λ x. p (f x)) xs) ≡ filter p (map f xs)
filter-image f p [] = refl
filter-image {A} {B} f p (x ∷ xs) =
    ⊎_elim
    (λ (e : p (f x) ≡ true).
    ap (map f) (filter-yes (λ y. p (f y)) x xs e) ∙ ap (λ (l : List B). f x ∷ l) (filter-image f p xs) ∙ sym (filter-yes p (f x) (map f xs) e))
    (λ (e : p (f x) ≡ false). ap (map f) (filter-no (λ y. p (f y)) x xs e) ∙ filter-image f p xs ∙ sym (filter-no p (f x) (map f xs) e))
    (bool_cases (p (f x)))

-- Inserted among those that pass, where it passes and they are sorted.
module _ {A : Type 0} (key : A → ℕ) (f : A → Bool) (x : A) (passes : f x ≡ true) where
  insert-first : (ys : List A) → All (λ y. key x < key y) ys → insert_by key x ys ≡ x ∷ ys
  unfolding insert_by
  insert-first [] a = refl
  insert-first (y ∷ ys) a = insert_by-before key x y ys (lt-ltb (key x) (key y) a.0)

  insert-behind : (y : A) (ys : List A) → ltb (key x) (key y) ≡ false → filter f (insert_by key x ys) ≡ insert_by key x (filter f ys)
      → filter f (insert_by key x (y ∷ ys)) ≡ insert_by key x (filter f (y ∷ ys))
  insert-behind y ys h e =
      ap (filter f) (insert_by-after key x y ys h)
      ∙ ⊎_elim
      (λ (t : f y ≡ true).
      filter-yes f y (insert_by key x ys) t ∙ ap (λ (l : List A). y ∷ l) e ∙ sym (ap (insert_by key x) (filter-yes f y ys t) ∙ insert_by-after key x y (filter f ys) h))
      (λ (t : f y ≡ false). filter-no f y (insert_by key x ys) t ∙ e ∙ sym (ap (insert_by key x) (filter-no f y ys t)))
      (bool_cases (f y))

  insert-filter : (ys : List A) → Sorted key ys → filter f (insert_by key x ys) ≡ insert_by key x (filter f ys)
  unfolding insert_by
  insert-filter [] s = filter-yes f x [] passes
  insert-filter (y ∷ ys) s =
      ⊎_elim
      (λ (h : ltb (key x) (key y) ≡ true).
      let low = ltb-true (key x) (key y) h in
      ap (filter f) (insert_by-before key x y ys h)
      ∙ filter-yes f x (y ∷ ys) passes
      ∙ sym (insert-first (filter f (y ∷ ys)) (filter-all f (λ z. key x < key z) (y ∷ ys) (low, all_map (λ z (g : key y ≤ key z). omega arith) ys s.0))))
      (λ (h : ltb (key x) (key y) ≡ false). insert-behind y ys h (insert-filter ys s.1))
      (bool_cases (ltb (key x) (key y)))

-- A LEASE MORE, which lies in one of the pools.
pub within_more : (pools : List Prefix) (x : Lease) (ys : List Lease) → Any (Inside (prefix_of x)) pools → Pairwise Before (map prefix_of ys)
    → within pools (map prefix_of (insert x ys)) ≡ insert_by (λ (p : Prefix). p.network) (prefix_of x) (within pools (map prefix_of ys))
within_more pools x ys i s =
    ap (within pools) (insert_by-image prefix_of network_of (λ (p : Prefix). p.network) x ys refl (all-every (λ y. refl) ys))
    ∙ insert-filter (λ (p : Prefix). p.network) (λ p. any? (inside? p) pools) (prefix_of x) (any?-of (inside? (prefix_of x)) (inside_of (prefix_of x)) pools i) (map prefix_of ys)
    (pairwise_map (λ p q (b : Before p q). omega arith) (map prefix_of ys) s)

-- THE POOLS OF THE GROUND

module _ (t : LeaseTable) (c : Call) (e : sound t ≡ true) where
  -- What holds of all pools holds of those of the ground.
  part : (P : Prefix → Type 0) → All P (pools_of t) → All P (pools_of (narrowed t c))
  unfolding narrowed prefixes_of
  part P a = go c.selection
    where
      go : (o : Option (List ℕ)) → All P (pools_of (narrowed_to o t))
      go none = a
      go (some s) =
          let ps : List Pool = used unused? t.pools in
          let f : Pool → Bool = contains? (four s 2) in
          subst (All P) (sym (ground-filtered s t)) (all-image pool_prefix P (filter f ps) (filter-all f (λ p. P (pool_prefix p)) ps (all-preimage pool_prefix P ps a)))

  pools-ascend : Pairwise Before (pools_of t) → Pairwise Before (pools_of (narrowed t c))
  unfolding narrowed prefixes_of
  pools-ascend a = go c.selection
    where
      go : (o : Option (List ℕ)) → Pairwise Before (pools_of (narrowed_to o t))
      go none = a
      go (some s) =
          let ps : List Pool = used unused? t.pools in
          let f : Pool → Bool = contains? (four s 2) in
          let R : Pool → Pool → Type 0 = λ p q. Before (pool_prefix p) (pool_prefix q) in
          subst (Pairwise Before) (sym (ground-filtered s t)) (pairwise_image pool_prefix Before (filter f ps) (pairwise-filter f R ps (pairwise-preimage pool_prefix Before ps a)))

  -- LEASES that are good and ascend in the table.
  module _ (now : ℕ) (ys : List Lease) (fine : Fine (pools_of t) now 0 ys) where
    abbrev own : List Prefix
    own = pools_of (narrowed t c)

    pub ground-ascend : Pairwise Before (map prefix_of ys)
    ground-ascend = (ordered t e now ys fine).leases_ascend

    pub ground-parted : All (λ p. Any (Inside p) (pools_of (narrowed t c)) ⊎ All (Apart p) (pools_of (narrowed t c))) (map prefix_of ys)
    ground-parted = let o = ordered t e now ys fine in parted-part (pools_of t) (pools_of (narrowed t c)) (map prefix_of ys) o.good.disjoint part o.pooled

    pub ground-ordered : Ordered (pools_of (narrowed t c)) (within (pools_of (narrowed t c)) (map prefix_of ys))
    ground-ordered =
        let o = ordered t e now ys fine in
        let f : Prefix → Bool = λ p. any? (inside? p) own in
        record {
          good = (area t c e).good;
          pools_ascend = pools-ascend o.pools_ascend;
          leases_ascend = pairwise-filter f Before (map prefix_of ys) o.leases_ascend;
          pooled = all_map (λ p (k : f p ≡ true). any?-to (inside? p) (inside-to p) own k) (filter f (map prefix_of ys)) (filter-pass f (map prefix_of ys));
        }

    -- The leases on the ground are those that lie in its pools.
    pub ground-leases : map prefix_of (usable_leases t c ys) ≡ within (pools_of (narrowed t c)) (map prefix_of ys)
    unfolding narrowed usable_leases
    ground-leases = go c.selection
      where
        go : (o : Option (List ℕ)) → map prefix_of (on_ground o t prefix_of ys) ≡ within (pools_of (narrowed_to o t)) (map prefix_of ys)
        go none =
            sym (filter-whole (λ p. any? (inside? p) (pools_of t)) (map prefix_of ys)
            (all_map (λ p i. any?-of (inside? p) (inside_of p) (pools_of t) i) (map prefix_of ys) (ordered t e now ys fine).pooled))
        go (some s) = filter-image prefix_of (λ p. any? (inside? p) (pools_of (narrowed_to (some s) t))) ys
