-- Laws of the ground of a call: the pools that it may use are some of the table's, and the leases that it may be given again some of those present. Laws of
-- offers speak of any table t with such pools (`Ground`), since the table with the ground of a call need not be sound.
-- Assumes nothing.
use Prim.Native.Nat.{ℕ, ◌+◌, ◌≤◌}
use mathlib.Core.Path.{◌≡◌, refl, sym, ap, ap₂, subst, ◌∙◌}
use mathlib.Core.Logic.{inl, inr, ⊎_elim}
use mathlib.Core.Bool.{Bool, true, false, not, ◌&&◌, beq}
use mathlib.Core.List.{List, [], ◌∷◌, map}
use mathlib.Core.Option.{Option, none, some}
use native.Mathlib.Omega.{arith}
use lib.ListN.{length, get_or}
use lib.Dec.{leb, eqb}
use borrow.Author.Tests.{eqb-true, not-false}
use Rattle.std.specs.Prelude.{cond}
use Rattle.lists.specs.Lists.{All, Any, and, any?, filter}
use Rattle.lists.proofs.Tests.{bool_cases, and-to}
use Rattle.lists.proofs.ListLaws.{all_map, all-image, all-member, pairwise_image}
use Rattle.lists.proofs.FilterLaws.{filter-all, filter-fewer, filter-yes, filter-no, filter_same}
use Rattle.lists.proofs.MapLaws.{filter-filter}
use Rattle.prefix.specs.declared.Prefix.{Prefix}
use Rattle.prefix.specs.Prefixes.{longest, prefix, Aligned, Inside, Apart, inside?}
use Rattle.free_space.specs.Serving.{Pools}
use Rattle.option.specs.Values.{Entry}
use Rattle.option.specs.Reading.{four}
use Rattle.option.specs.Selection.{selection_size, selection?}
use Rattle.option.specs.Contents.{Request, entries_in}
use Rattle.table.specs.declared.{Pool.Pool, Lease.Lease, LeaseTable.LeaseTable}
use Rattle.table.specs.Table.{pool_prefix, prefix_of, unused?, prefixes_of, pools_of, sound}
use Rattle.table.proofs.Ascending.{Ascending, used, ascending-apart, ascending-filter}
use Rattle.table.proofs.TableLaws.{GoodPool, Fine, fine-filter, sound-pools, sound-default}
use Rattle.ledger.specs.Ledger.{Call, bad_selection?, returned, contains?, narrowed_to, narrowed, on_ground, usable_leases, usable_entries, asked_length, held_by?, held_for?, first_that, but_first, again}
use Rattle.ledger.specs.Demand3.{answers?, pair_off}

-- Pools that are good and ascend are as crate `free_space` wants them.
pub good-pools : (ps : List Pool) → All GoodPool ps → Ascending pool_prefix 0 ps → Pools (map pool_prefix ps)
good-pools ps good ascending = record {
  lengths = all-image pool_prefix (λ p. (1 ≤ p.length) × (p.length ≤ longest)) ps (all_map (λ p (k : GoodPool p). (omega (arith, k.short), k.long)) ps good);
  aligned = all-image pool_prefix Aligned ps (all_map (λ p (k : GoodPool p). k.aligned) ps good);
  disjoint = pairwise_image pool_prefix Apart ps (ascending-apart pool_prefix 0 ps ascending);
}

-- A table with ground among these pools: its own pools are good, what lies inside one of them lies inside one of these, and its default length is one.
pub record Ground (pools : List Prefix) (t : LeaseTable) : Type 0 where
  pub good : Pools (pools_of t)
  pub part : (p : Prefix) → Any (Inside p) (pools_of t) → Any (Inside p) pools
  pub default : (1 ≤ t.default_length) × (t.default_length ≤ longest)

-- THE POOLS OF THE GROUND: those of the table that contain the address.

filters-swap : {A : Type 0} (f g : A → Bool) (xs : List A) → filter g (filter f xs) ≡ filter f (filter g xs)
filters-swap f g xs = filter-filter f g xs ∙ filter_same (λ x. f x && g x) (λ x. g x && f x) (λ x. swap (f x) (g x)) xs ∙ sym (filter-filter g f xs)
  where
    swap : (a b : Bool) → (a && b) ≡ (b && a)
    swap true true = refl
    swap true false = refl
    swap false true = refl
    swap false false = refl

pub ground-filtered : (s : List ℕ) (t : LeaseTable) → pools_of (narrowed_to (some s) t) ≡ map pool_prefix (filter (contains? (four s 2)) (used unused? t.pools))
unfolding prefixes_of
ground-filtered s t = ap (map pool_prefix) (filters-swap (contains? (four s 2)) (λ p. not (unused? p)) t.pools)

any-filtered : (f : Pool → Bool) (Q : Prefix → Type 0) (ps : List Pool) → Any Q (map pool_prefix (filter f ps)) → Any Q (map pool_prefix ps)
any-filtered f Q [] a = a
any-filtered f Q (p ∷ ps) a =
    ⊎_elim
    (λ (e : f p ≡ true). first (subst (λ (l : List Pool). Any Q (map pool_prefix l)) (filter-yes f p ps e) a) (any-filtered f Q ps))
    (λ (e : f p ≡ false). inr (any-filtered f Q ps (subst (λ (l : List Pool). Any Q (map pool_prefix l)) (filter-no f p ps e) a)))
    (bool_cases (f p))
  where
    first : Any Q (map pool_prefix (p ∷ filter f ps)) → (Any Q (map pool_prefix (filter f ps)) → Any Q (map pool_prefix ps)) → Any Q (map pool_prefix (p ∷ ps))
    first (inl q) k = inl q
    first (inr b) k = inr (k b)

ground-of : (o : Option (List ℕ)) (t : LeaseTable) → sound t ≡ true → Ground (pools_of t) (narrowed_to o t)
unfolding prefixes_of
ground-of none t e =
    let g = sound-pools t e in
    record { good = good-pools (used unused? t.pools) g.good g.ascending; part = λ p a. a; default = sound-default t e }
ground-of (some s) t e =
    let g = sound-pools t e in
    let f : Pool → Bool = contains? (four s 2) in
    let ps : List Pool = used unused? t.pools in
    record {
      good = subst Pools (sym (ground-filtered s t)) (good-pools (filter f ps) (filter-all f GoodPool ps g.good) (ascending-filter pool_prefix f 0 ps g.ascending));
      part = λ p a. any-filtered f (Inside p) ps (subst (Any (Inside p)) (ground-filtered s t) a);
      default = sound-default t e;
    }

pub area : (t : LeaseTable) (c : Call) → sound t ≡ true → Ground (pools_of t) (narrowed t c)
unfolding narrowed
area t c e = ground-of c.selection t e

-- The table itself has all of its ground, and so has a call without the option.
pub ground-whole : (t : LeaseTable) → sound t ≡ true → Ground (pools_of t) t
ground-whole t e = ground-of none t e

pub narrowed_none : (t : LeaseTable) (c : Call) → c.selection ≡ none → narrowed t c ≡ t
unfolding narrowed
narrowed_none t c e = ap (λ (o : Option (List ℕ)). narrowed_to o t) e

-- The ground goes by the pools, and the rest of the table stays.

pub narrowed-pools : (t u : LeaseTable) (c : Call) → u.pools ≡ t.pools → pools_of (narrowed u c) ≡ pools_of (narrowed t c)
unfolding narrowed
narrowed-pools t u c e = go c.selection
  where
    go : (o : Option (List ℕ)) → pools_of (narrowed_to o u) ≡ pools_of (narrowed_to o t)
    go none = ap prefixes_of e
    go (some s) = ap (λ (ps : List Pool). prefixes_of (filter (contains? (four s 2)) ps)) e

pub narrowed-default : (t : LeaseTable) (c : Call) → (narrowed t c).default_length ≡ t.default_length
unfolding narrowed
narrowed-default t c = go c.selection
  where
    go : (o : Option (List ℕ)) → (narrowed_to o t).default_length ≡ t.default_length
    go none = refl
    go (some s) = refl

-- WHAT GOES BY THE DEFAULT LENGTH ALONE is the same on the ground.

module _ (t u : LeaseTable) (e : t.default_length ≡ u.default_length) where
  pub length-same : (r : Request) → asked_length t r ≡ asked_length u r
  length-same r = ap (λ (n : ℕ). cond (eqb r.length 0) n r.length) e

  pub lengths-same : (rs : List Request) → map (asked_length t) rs ≡ map (asked_length u) rs
  lengths-same rs = ap (λ (n : ℕ). map (λ (r : Request). cond (eqb r.length 0) n r.length) rs) e

  pub again-same : (client : ℕ) (rs : List Request) (xs : List Lease) → again t client xs rs ≡ again u client xs rs
  unfolding again
  again-same client [] xs = refl
  again-same client (r ∷ rs) xs =
      let f : Lease → Bool = held_for? t client r in
      let g : Lease → Bool = held_for? u client r in
      let q : f ≡ g = ap (λ (n : ℕ). λ (x : Lease). and (held_by? client x ∷ eqb n x.length ∷ beq r.h x.h ∷ [])) (length-same r) in
      ap₂ (λ (h : Option Lease) (l : List (Option Lease)). h ∷ l) (ap (λ (h : Lease → Bool). first_that h xs) q)
      (again-same client rs (but_first f xs) ∙ ap (λ (h : Lease → Bool). again u client (but_first h xs) rs) q)

  pub pairs-same : (rs : List Request) (es : List Entry) → pair_off t rs es ≡ pair_off u rs es
  pairs-same [] es = refl
  pairs-same (r ∷ rs) [] = ap (λ (l : List (Option Entry)). none ∷ l) (pairs-same rs [])
  pairs-same (r ∷ rs) (x ∷ es) =
      ap₂ (λ (b : Bool) (l : List (Option Entry)). cond b (some x ∷ l) (none ∷ pair_off t rs (x ∷ es)))
      (ap (λ (n : ℕ). and (eqb n x.length ∷ beq r.h x.h ∷ [])) (length-same r)) (pairs-same rs es)
      ∙ ap (λ (l : List (Option Entry)). cond (answers? u r x) (some x ∷ pair_off u rs es) (none ∷ l)) (pairs-same rs (x ∷ es))

-- WHAT LIES ON THE GROUND is among what was there.

ground-all : {A : Type 0} (o : Option (List ℕ)) (t : LeaseTable) (f : A → Prefix) (P : A → Type 0) (xs : List A) → All P xs → All P (on_ground o t f xs)
ground-all none t f P xs a = a
ground-all (some s) t f P xs a = filter-all (λ x. any? (inside? (f x)) (pools_of (narrowed_to (some s) t))) P xs a

pub usable-all : (t : LeaseTable) (c : Call) (P : Lease → Type 0) (xs : List Lease) → All P xs → All P (usable_leases t c xs)
unfolding usable_leases
usable-all t c P xs a = ground-all c.selection t prefix_of P xs a

pub usable-members : (t : LeaseTable) (c : Call) (xs : List Lease) → All (λ x. Any (λ y. y ≡ x) xs) (usable_leases t c xs)
usable-members t c xs = usable-all t c (λ x. Any (λ y. y ≡ x) xs) xs (all-member xs)

pub usable-fine : (t : LeaseTable) (c : Call) (pools : List Prefix) (now from : ℕ) (xs : List Lease) → Fine pools now from xs → Fine pools now from (usable_leases t c xs)
unfolding usable_leases
usable-fine t c pools now from xs a = go c.selection
  where
    go : (o : Option (List ℕ)) → Fine pools now from (on_ground o t prefix_of xs)
    go none = a
    go (some s) = fine-filter pools now from (λ x. any? (inside? (prefix_of x)) (pools_of (narrowed_to (some s) t))) xs a

pub usable-entries : (t : LeaseTable) (c : Call) (P : Entry → Type 0) → All P (entries_in c.option) → All P (usable_entries t c)
unfolding usable_entries
usable-entries t c P a = ground-all c.selection t (λ e. prefix e.network e.length) P (entries_in c.option) a

ground-fewer : {A : Type 0} (o : Option (List ℕ)) (t : LeaseTable) (f : A → Prefix) (xs : List A) → length (on_ground o t f xs) ≤ length xs
ground-fewer none t f xs = omega arith
ground-fewer (some s) t f xs = filter-fewer (λ x. any? (inside? (f x)) (pools_of (narrowed_to (some s) t))) xs

pub usable-entries-fewer : (t : LeaseTable) (c : Call) → length (usable_entries t c) ≤ length (entries_in c.option)
unfolding usable_entries
usable-entries-fewer t c = ground-fewer c.selection t (λ e. prefix e.network e.length) (entries_in c.option)

-- The option that is returned, where row 6 does not apply to it, has six bytes.
pub returned-short : (o : Option (List ℕ)) → bad_selection? o ≡ false → length (returned o) ≤ selection_size
unfolding selection?
returned-short none e = omega arith
returned-short (some s) e =
    let a = (and-to (leb 2 (length s)) _ (not-false (selection? s) e)).1 in
    let b = (and-to (eqb (get_or s 0 0) 118) _ a).1 in
    let d = and-to (eqb (get_or s 1 0 + 2) (length s)) (eqb (get_or s 1 0) 4) b in
    omega (arith, eqb-true (get_or s 1 0 + 2) (length s) d.0, eqb-true (get_or s 1 0) 4 d.1)

-- And it goes by the pools.

ground-same : {A : Type 0} (o : Option (List ℕ)) (t u : LeaseTable) (f : A → Prefix) (xs : List A) → t.pools ≡ u.pools → on_ground o t f xs ≡ on_ground o u f xs
ground-same none t u f xs e = refl
ground-same (some s) t u f xs e = ap (λ (ps : List Pool). filter (λ x. any? (inside? (f x)) (prefixes_of (filter (contains? (four s 2)) ps))) xs) e

pub usable_same : (t u : LeaseTable) (c : Call) (xs : List Lease) → t.pools ≡ u.pools → usable_leases t c xs ≡ usable_leases u c xs
unfolding usable_leases
usable_same t u c xs e = ground-same c.selection t u prefix_of xs e

pub entries-same : (t u : LeaseTable) (c : Call) → t.pools ≡ u.pools → usable_entries t c ≡ usable_entries u c
unfolding usable_entries
entries-same t u c e = ground-same c.selection t u (λ e. prefix e.network e.length) (entries_in c.option) e
