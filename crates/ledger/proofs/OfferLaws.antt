-- Laws of the offers of one call: what an offer is, that they keep the leases good and ascending, and that they are the grants of crate `free_space`.
-- Assumes nothing.
use Prim.Native.Nat.{ℕ, zero, suc, ◌+◌, ◌≤◌, ◌<◌}
use mathlib.Core.Path.{◌≡◌, refl, sym, ap, subst, ◌∙◌}
use mathlib.Core.Logic.{◌⊎◌, inl, inr, ⊎_elim}
use mathlib.Core.Bool.{true, false}
use mathlib.Core.List.Permᴰ
use mathlib.Core.List.{List, [], ◌∷◌, ◌++◌, map, Permᴰ}
use mathlib.Core.Option.{Option, none, some}
use native.Mathlib.Omega.{arith}
use lib.ListN.{length}
use lib.Dec.{eqb}
use borrow.Author.Tests.{leb-true, leb-false, le-leb, lt-leb, eqb-false}
use Rattle.lists.specs.Lists.{All, Any, Pairwise, cat_maybes}
use Rattle.lists.proofs.Tests.{bool_cases, cond-true, cond-false}
use Rattle.lists.proofs.ListLaws.{all_map, all-image, pairwise_image}
use Rattle.lists.proofs.Permutations.{perm-all, perm-map, perm-length}
use Rattle.lists.proofs.SortingLaws.{insert_by-perm, insert_by-all}
use Rattle.prefix.specs.declared.Prefix.{Prefix}
use Rattle.prefix.specs.Prefixes.{longest, end, Inside, Apart}
use Rattle.free_space.specs.Space.{Free, Takes}
use Rattle.free_space.specs.Grant.{grant}
use Rattle.free_space.specs.Serving.{Pools, Before, Ordered, with_grant, serve, after}
use Rattle.free_space.proofs.ListTheorem.{granted-free}
use Rattle.free_space.proofs.Rules.{grant-takes}
use Rattle.free_space.proofs.Permuted.{grant-perm}
use Rattle.names.specs.declared.Name.{Name}
use Rattle.table.specs.declared.Pool.{Pool}
use Rattle.table.specs.declared.Lease.{Lease}
use Rattle.table.specs.declared.LeaseTable.{LeaseTable}
use Rattle.table.specs.Table.{lease_slots, addresses, pool_prefix, prefix_of, network_of, unused?, prefixes_of, pools_of, sound, insert}
use Rattle.table.proofs.Ascending.{Ascending, used, ascending-low}
use Rattle.table.proofs.TableLaws.{GoodPool, Good, Fine, sound-pools, insert-fine}
use Rattle.option.specs.Contents.{Request}
use Rattle.ledger.specs.Ledger.{asked_length, full, hold_time, offered, offer, add, offers, add_all}
use Rattle.ledger.proofs.GroundLaws.{good-pools, Ground}

abbrev pub prefixes : List Lease → List Prefix
prefixes xs = map prefix_of xs

abbrev pub prefix? : Option Lease → Option Prefix
prefix? none = none
prefix? (some x) = some (prefix_of x)

pub insert-perm : (x : Lease) (ys : List Lease) → Permᴰ (insert x ys) (x ∷ ys)
insert-perm x ys = insert_by-perm network_of x ys

-- What is so of all prefixes with one more is so of them.
pub add-fewer : (P : Prefix → Type 0) (xs : List Lease) (o : Option Lease) → All P (prefixes (add o xs)) → All P (prefixes xs)
add-fewer P xs none a = a
add-fewer P xs (some x) a = (perm-all P (perm-map prefix_of (insert-perm x xs)) a).1

-- THE POOLS OF A SOUND TABLE, as crate `free_space` wants them.

pub pools-good : (t : LeaseTable) → sound t ≡ true → Pools (pools_of t)
unfolding prefixes_of
pools-good t e =
    let g = sound-pools t e in
    good-pools (used unused? t.pools) g.good g.ascending

pub pools-within : (t : LeaseTable) → sound t ≡ true → All (λ p. end p ≤ addresses) (pools_of t)
unfolding prefixes_of
pools-within t e = let ps : List Pool = used unused? t.pools in all-image pool_prefix (λ p. end p ≤ addresses) ps (all_map (λ p (k : GoodPool p). k.within) ps (sound-pools t e).good)

pub length-bounds : (t : LeaseTable) → (1 ≤ t.default_length) × (t.default_length ≤ longest) → (r : Request) → r.length ≤ longest → (1 ≤ asked_length t r) × (asked_length t r ≤ longest)
length-bounds t s r l =
    ⊎_elim
    (λ (e : eqb r.length 0 ≡ true). rw (e) s)
    (λ (e : eqb r.length 0 ≡ false). let z = eqb-false r.length 0 e in rw (e) (positive r.length z, l))
    (bool_cases (eqb r.length 0))
  where
    positive : (n : ℕ) → (n ≡ 0 → ⊥) → 1 ≤ n
    positive zero z = absurd (z refl)
    positive (suc n) z = omega arith

-- WHAT AN OFFER IS

module _ (t : LeaseTable) (now client : ℕ) (name : Name) where
  pub record Offered (xs : List Lease) (r : Request) (x : Lease) : Type 0 where
    pub room : length xs < lease_slots
    pub len : x.length ≡ asked_length t r
    pub h : x.h ≡ r.h
    pub d : x.d ≡ false
    pub owner : x.client ≡ client
    pub leased : x.leased ≡ false
    pub until : x.expires ≡ now + hold_time
    pub label : x.name ≡ name
    pub granted : grant (pools_of t) (prefixes xs) (asked_length t r) ≡ some (prefix_of x)
    pub free : Free (pools_of t) (prefixes xs) (prefix_of x)

  abbrev pub Offer : List Lease → Request → Option Lease → Type 0
  Offer xs r none = (lease_slots ≤ length xs) ⊎ (grant (pools_of t) (prefixes xs) (asked_length t r) ≡ none)
  Offer xs r (some x) = Offered xs r x

  module _ (good : Pools (pools_of t)) where
    offered-is : (xs : List Lease) (r : Request) → length xs < lease_slots → (g : Option Prefix) → grant (pools_of t) (prefixes xs) (asked_length t r) ≡ g
        → Offer xs r (offered now client name r.h g)
    offered-is xs r l none e = inr e
    offered-is xs r l (some p) e =
        let f = granted-free (pools_of t) good (prefixes xs) (asked_length t r) p e in
        record {
          room = l;
          len = f.1;
          h = refl;
          d = refl;
          owner = refl;
          leased = refl;
          until = refl;
          label = refl;
          granted = e;
          free = f.0;
        }

    pub offer-is : (xs : List Lease) (r : Request) → Offer xs r (offer t now client name xs r)
    unfolding offer
    offer-is xs r =
        ⊎_elim
        (λ (e : full xs ≡ true). subst (Offer xs r) (sym (cond-true (full xs) _ _ e)) (inl (leb-true lease_slots (length xs) e)))
        (λ (e : full xs ≡ false).
        subst (Offer xs r) (sym (cond-false (full xs) _ _ e))
        (offered-is xs r (leb-false lease_slots (length xs) e) (grant (pools_of t) (prefixes xs) (asked_length t r)) refl))
        (bool_cases (full xs))

    -- What is so of each lease offered, to requests of some kind.
    module _ (Q : Request → Type 0) (P : Lease → Type 0) (each : (xs : List Lease) (r : Request) (x : Lease) → Q r → Offered xs r x → P x) where
      first-all : (xs : List Lease) (r : Request) → Q r → (o : Option Lease) → Offer xs r o → (os : List (Option Lease)) → All P (cat_maybes os) → All P (cat_maybes (o ∷ os))
      first-all xs r q none f os a = a
      first-all xs r q (some x) f os a = (each xs r x q f, a)

      pub offers-all : (rs : List Request) (xs : List Lease) → All Q rs → All P (cat_maybes (offers t now client name xs rs))
      unfolding offers
      offers-all [] xs a = tt
      offers-all (r ∷ rs) xs a =
          first-all xs r a.0 (offer t now client name xs r) (offer-is xs r) (offers t now client name (add (offer t now client name xs r) xs) rs) (offers-all rs (add (offer t now client name xs r) xs) a.1)

    -- What is offered shares no address with what was in use before: offers only add to that.
    new-step : (used : List Prefix) (xs : List Lease) (r : Request) (o : Option Lease) (os : List (Option Lease)) → ((P : Prefix → Type 0) → All P (prefixes xs) → All P used) → Offer xs r o
        → All (λ x. All (Apart (prefix_of x)) used) (cat_maybes os) → All (λ x. All (Apart (prefix_of x)) used) (cat_maybes (o ∷ os))
    new-step used xs r none os k f a = a
    new-step used xs r (some x) os k f a = (k (Apart (prefix_of x)) f.free.unused, a)

    pub offers-new : (rs : List Request) (used : List Prefix) (xs : List Lease) → ((P : Prefix → Type 0) → All P (prefixes xs) → All P used)
        → All (λ x. All (Apart (prefix_of x)) used) (cat_maybes (offers t now client name xs rs))
    unfolding offers
    offers-new [] used xs k = tt
    offers-new (r ∷ rs) used xs k =
        let o : Option Lease = offer t now client name xs r in
        new-step used xs r o (offers t now client name (add o xs) rs) k (offer-is xs r) (offers-new rs used (add o xs) (λ P a. k P (add-fewer P xs o a)))

    -- The leases stay good, ascending, and no more than there are slots.

    pub record Inv (pools : List Prefix) (xs : List Lease) : Type 0 where
      pub fine : Fine pools now 0 xs
      pub fit : length xs ≤ lease_slots

    module _ (pools : List Prefix) (g : Ground pools t) (named : client ≡ 0 → ⊥) where
      pub offered-good : (xs : List Lease) (r : Request) (x : Lease) → r.length ≤ longest → Offered xs r x → Good pools now x
      offered-good xs r x l o =
          let b = length-bounds t g.default r l in
          record {
            short = omega (arith, o.len, b.0);
            long = omega (arith, o.len, b.1);
            aligned = o.free.aligned;
            client = λ e. named (sym o.owner ∙ e);
            later = omega (arith, o.until);
            pooled = g.part (prefix_of x) o.free.pooled;
          }

      add-inv : (xs : List Lease) (r : Request) → r.length ≤ longest → (o : Option Lease) → Offer xs r o → Inv pools xs → Inv pools (add o xs)
      add-inv xs r l none f i = i
      add-inv xs r l (some x) f i = record {
        fine = insert-fine pools now x xs (offered-good xs r x l f) f.free.unused i.fine;
        fit = omega (arith, perm-length (insert-perm x xs), f.room);
      }

      pub offers-inv : (rs : List Request) (xs : List Lease) → All (λ r. r.length ≤ longest) rs → Inv pools xs → Inv pools (add_all (offers t now client name xs rs) xs)
      unfolding offers add_all
      offers-inv [] xs a i = i
      offers-inv (r ∷ rs) xs a i =
          offers-inv rs (add (offer t now client name xs r) xs) a.1 (add-inv xs r a.0 (offer t now client name xs r) (offer-is xs r) i)

      pub offers-good : (rs : List Request) (xs : List Lease) → All (λ r. r.length ≤ longest) rs → All (Good pools now) (cat_maybes (offers t now client name xs rs))
      offers-good = offers-all (λ r. r.length ≤ longest) (Good pools now) offered-good

    -- The offers are the grants of crate `free_space`.

    offer-grant : (xs : List Lease) (r : Request) → length xs < lease_slots → (o : Option Lease) → Offer xs r o → prefix? o ≡ grant (pools_of t) (prefixes xs) (asked_length t r)
    offer-grant xs r l none (inl f) = absurd (omega arith)
    offer-grant xs r l none (inr f) = sym f
    offer-grant xs r l (some x) f = sym f.granted

    pub add-perm : (xs : List Lease) (ls : List Prefix) (o : Option Lease) → Permᴰ (prefixes xs) ls → Permᴰ (prefixes (add o xs)) (with_grant (prefix? o) ls)
    add-perm xs ls none p = p
    add-perm xs ls (some x) p = Permᴰ.trans (perm-map prefix_of (insert-perm x xs)) (Permᴰ.cons refl p)

    pub add-length : (xs : List Lease) (o : Option Lease) → length (add o xs) ≤ suc (length xs)
    add-length xs none = omega arith
    add-length xs (some x) = omega (arith, perm-length (insert-perm x xs))

    pub offers-serve : (rs : List Request) (xs : List Lease) (ls : List Prefix) → length xs + length rs ≤ lease_slots → Permᴰ (prefixes xs) ls
        → map prefix? (offers t now client name xs rs) ≡ serve (pools_of t) ls (map (asked_length t) rs)
    unfolding offers
    offers-serve [] xs ls l p = refl
    offers-serve (r ∷ rs) xs ls l p =
        let o : Option Lease = offer t now client name xs r in
        let e : prefix? o ≡ grant (pools_of t) ls (asked_length t r) = offer-grant xs r (omega arith) o (offer-is xs r) ∙ grant-perm (pools_of t) p (asked_length t r) in
        let f : map prefix? (offers t now client name (add o xs) rs) ≡ serve (pools_of t) (with_grant (prefix? o) ls) (map (asked_length t) rs) =
        offers-serve rs (add o xs) (with_grant (prefix? o) ls) (omega (arith, add-length xs o)) (add-perm xs ls o p) in
        ap (λ (l : List (Option Prefix)). prefix? o ∷ l) f ∙ ap (λ (g : Option Prefix). g ∷ serve (pools_of t) (with_grant g ls) (map (asked_length t) rs)) e

    pub offers-after : (rs : List Request) (xs : List Lease) (ls : List Prefix) → length xs + length rs ≤ lease_slots → Permᴰ (prefixes xs) ls
        → Permᴰ (prefixes (add_all (offers t now client name xs rs) xs)) (after (pools_of t) ls (map (asked_length t) rs))
    unfolding offers add_all
    offers-after [] xs ls l p = p
    offers-after (r ∷ rs) xs ls l p =
        let o : Option Lease = offer t now client name xs r in
        let e : prefix? o ≡ grant (pools_of t) ls (asked_length t r) = offer-grant xs r (omega arith) o (offer-is xs r) ∙ grant-perm (pools_of t) p (asked_length t r) in
        offers-after rs (add o xs) (with_grant (grant (pools_of t) ls (asked_length t r)) ls) (omega (arith, add-length xs o))
        (subst (λ (g : Option Prefix). Permᴰ (prefixes (add o xs)) (with_grant g ls)) e (add-perm xs ls o p))

-- THE LEASES WITH THOSE OFFERED

pub add_all-perm : (os : List (Option Lease)) (xs : List Lease) → Permᴰ (add_all os xs) (xs ++ cat_maybes os)
unfolding add_all
add_all-perm [] xs = Permᴰ.symm (Permᴰ.append-nil xs)
add_all-perm (none ∷ os) xs = add_all-perm os xs
add_all-perm (some x ∷ os) xs =
    Permᴰ.trans (add_all-perm os (insert x xs))
    (Permᴰ.trans (Permᴰ.append_right (cat_maybes os) (insert-perm x xs)) (Permᴰ.symm (Permᴰ.middle x xs (cat_maybes os))))

-- What is so of leases and of those offered is so of all of them.
pub add_all-all : (P : Lease → Type 0) (os : List (Option Lease)) (xs : List Lease) → All P (cat_maybes os) → All P xs → All P (add_all os xs)
unfolding add_all
add_all-all P [] xs a b = b
add_all-all P (none ∷ os) xs a b = add_all-all P os xs a b
add_all-all P (some x ∷ os) xs a b = add_all-all P os (insert x xs) a.1 (insert_by-all network_of P x xs a.0 b)

-- A request while a slot is empty, and while none is.

pub offer-room : (t : LeaseTable) (now client : ℕ) (name : Name) (xs : List Lease) (r : Request) → length xs < lease_slots
    → offer t now client name xs r ≡ offered now client name r.h (grant (pools_of t) (map prefix_of xs) (asked_length t r))
unfolding offer
offer-room t now client name xs r h = cond-false (full xs) none _ (lt-leb lease_slots (length xs) h)

pub offer-full : (t : LeaseTable) (now client : ℕ) (name : Name) (xs : List Lease) (r : Request) → lease_slots ≤ length xs → offer t now client name xs r ≡ none
unfolding offer
offer-full t now client name xs r h = cond-true (full xs) none _ (le-leb lease_slots (length xs) h)

pub offers-length : (t : LeaseTable) (now client : ℕ) (name : Name) (rs : List Request) (xs : List Lease) → length (offers t now client name xs rs) ≡ length rs
unfolding offers
offers-length t now client name [] xs = refl
offers-length t now client name (r ∷ rs) xs = ap suc (offers-length t now client name rs (add (offer t now client name xs r) xs))

-- One more request of a list.

pub offers-snoc : (t : LeaseTable) (now client : ℕ) (name : Name) (rs : List Request) (xs : List Lease) (r : Request)
    → offers t now client name xs (rs ++ (r ∷ [])) ≡ offers t now client name xs rs ++ (offer t now client name (add_all (offers t now client name xs rs) xs) r ∷ [])
unfolding offers add_all
offers-snoc t now client name [] xs r = refl
offers-snoc t now client name (q ∷ rs) xs r = ap (λ (os : List (Option Lease)). offer t now client name xs q ∷ os) (offers-snoc t now client name rs (add (offer t now client name xs q) xs) r)

pub add_all-snoc : (os : List (Option Lease)) (o : Option Lease) (xs : List Lease) → add_all (os ++ (o ∷ [])) xs ≡ add o (add_all os xs)
unfolding add_all
add_all-snoc [] o xs = refl
add_all-snoc (p ∷ os) o xs = add_all-snoc os o (add p xs)

-- Pools and leases in order.

ascending-before : {A : Type 0} (pre : A → Prefix) (from : ℕ) (xs : List A) → Ascending pre from xs → Pairwise (λ x y. Before (pre x) (pre y)) xs
ascending-before pre from [] a = tt
ascending-before pre from (x ∷ xs) a = (ascending-low pre (end (pre x)) xs a.1, ascending-before pre (end (pre x)) xs a.1)

pub ordered : (t : LeaseTable) → sound t ≡ true → (now : ℕ) (ys : List Lease) → Fine (pools_of t) now 0 ys → Ordered (pools_of t) (map prefix_of ys)
unfolding prefixes_of
ordered t s now ys f = record {
  good = pools-good t s;
  pools_ascend = pairwise_image pool_prefix Before (used unused? t.pools) (ascending-before pool_prefix 0 (used unused? t.pools) (sound-pools t s).ascending);
  leases_ascend = pairwise_image prefix_of Before ys (ascending-before prefix_of 0 ys f.1);
  pooled = all-image prefix_of (λ p. Any (Inside p) (prefixes_of t.pools)) ys (all_map (λ x g. g.pooled) ys f.0);
}

-- THE CHOICE: "An ask of length p takes, among whole free blocks of length at most p, the smallest, the lowest network among equals, and of that the
-- lowest part of length p." On any good pools, with any leases present.
pub offer-takes : (t : LeaseTable) → Pools (pools_of t) → (now client : ℕ) (name : Name) (xs : List Lease) (r : Request) (x : Lease) → offer t now client name xs r ≡ some x
    → Takes (pools_of t) (map prefix_of xs) (asked_length t r) (prefix_of x)
offer-takes t good now client name xs r x e =
    let o : Offered t now client name xs r x = subst (Offer t now client name xs r) e (offer-is t now client name good xs r) in
    (grant-takes (pools_of t) good (map prefix_of xs) (asked_length t r) (prefix_of x)).0 o.granted
