-- Laws of the lease table: what each test decides, what is present, and that storing good leases makes a sound table.
-- Assumes nothing.
use Prim.Native.Nat.{ℕ, ◌-◌, ◌≤◌, ◌<◌}
use mathlib.Core.Path.{◌≡◌, refl, sym, ap, ap₂, subst, ◌∙◌}
use mathlib.Core.Logic.{⊎_elim}
use mathlib.Core.Bool.{Bool, true, false, ◌&&◌, and-true}
use mathlib.Core.List.{List, ◌∷◌, ◌++◌, map, append-nil}
use native.Mathlib.Omega.{arith}
use lib.ListN.{length, replicate, length-append, length-replicate, length-map}
use lib.Dec.{ltb, eqb}
use borrow.Author.Tests.{leb-true, le-leb, ltb-true, lt-ltb, le-ltb, eqb-true, eqb-false, eq-eqb, ne_eqb, not-true}
use Rattle.lists.specs.Lists.{All, Any, Pairwise, filter}
use Rattle.lists.proofs.Tests.{bool_cases, not-of, and-list-to, and-list-of, any?-to, any?-of}
use Rattle.lists.proofs.ListLaws.{all_map, all-map₂, all-image, all-preimage, pairwise_image}
use Rattle.prefix.specs.declared.Prefix.{Prefix}
use Rattle.prefix.specs.Prefixes.{end, Aligned, Inside, inside?, Apart}
use Rattle.prefix.proofs.PrefixLaws.{aligned-to, aligned-of, inside-to, inside_of}
use Rattle.names.specs.declared.Name.{Name}
use Rattle.names.specs.Names.{unnamed?}
use Rattle.names.proofs.NameLaws.{unnamed-to}
use Rattle.table.specs.declared.Pool.{Pool}
use Rattle.table.specs.declared.Lease.{Lease}
use Rattle.table.specs.declared.LeaseTable.{LeaseTable}
use Rattle.table.specs.Table.{pool_slots, lease_slots, latest, addresses, pool_prefix, prefix_of, no_pool, no_lease, pool_zeros, unused?, lease_zeros, empty?, pools_of, present, head_rules, head_ok, pool_rules, pool_ok, lease_rules, lease_ok, pools_ascend?, leases_ascend?, table_rules, sound, padded, store, network_of, insert}
use Rattle.lists.proofs.SortingLaws.{insert_by-all}
use Rattle.lists.proofs.FilterLaws.{filter-yes, filter-no, filter-all, filter-fewer, filter-append, filter-whole, filter-replicate, filter-pass}
use Rattle.table.proofs.Ascending.{Ascending, used, ascending-filter, ascending-apart, ascending-map, ascending-insert, Slots, ascends-to, ascends-of}

-- EMPTY SLOTS

pub unused-to : (p : Pool) → unused? p ≡ true → p ≡ no_pool
unfolding unused?
unused-to p e =
    let t = and-list-to (pool_zeros p) e in
    ap₂ (λ (n l : ℕ). record { network = n; length = l }) (eqb-true p.network 0 t.0) (eqb-true p.length 0 t.1.0)

pub unused-of : unused? no_pool ≡ true
unfolding unused?
unused-of = refl

pub empty-to : (x : Lease) → empty? x ≡ true → x ≡ no_lease
unfolding empty?
empty-to x e =
    let t = and-list-to (lease_zeros x) e in
    let n = eqb-true x.network 0 t.0 in
    let l = eqb-true x.length 0 t.1.0 in
    let c = eqb-true x.client 0 t.1.1.0 in
    let le = not-true x.leased t.1.1.1.0 in
    let h = not-true x.h t.1.1.1.1.0 in
    let d = not-true x.d t.1.1.1.1.1.0 in
    let ex = eqb-true x.expires 0 t.1.1.1.1.1.1.0 in
    let na = t.1.1.1.1.1.1.1.0 in
    ap (λ (v : ℕ). record { network = v; length = x.length; client = x.client; leased = x.leased; h = x.h; d = x.d; expires = x.expires; name = x.name }) n
    ∙ ap (λ (v : ℕ). record { network = 0; length = v; client = x.client; leased = x.leased; h = x.h; d = x.d; expires = x.expires; name = x.name }) l
    ∙ ap (λ (v : ℕ). record { network = 0; length = 0; client = v; leased = x.leased; h = x.h; d = x.d; expires = x.expires; name = x.name }) c
    ∙ ap (λ (v : Bool). record { network = 0; length = 0; client = 0; leased = v; h = x.h; d = x.d; expires = x.expires; name = x.name }) le
    ∙ ap (λ (v : Bool). record { network = 0; length = 0; client = 0; leased = false; h = v; d = x.d; expires = x.expires; name = x.name }) h
    ∙ ap (λ (v : Bool). record { network = 0; length = 0; client = 0; leased = false; h = false; d = v; expires = x.expires; name = x.name }) d
    ∙ ap (λ (v : ℕ). record { network = 0; length = 0; client = 0; leased = false; h = false; d = false; expires = v; name = x.name }) ex
    ∙ ap (λ (v : Name). record { network = 0; length = 0; client = 0; leased = false; h = false; d = false; expires = 0; name = v }) (unnamed-to x.name na)

pub empty_of : empty? no_lease ≡ true
unfolding empty? unnamed?
empty_of = refl

-- A slot whose length is not 0 is not empty.
pub long-not-unused : (p : Pool) → 0 < p.length → unused? p ≡ false
long-not-unused p h = ⊎_elim (λ (e : unused? p ≡ true). absurd (omega (arith, ap (λ (q : Pool). q.length) (unused-to p e)))) (λ e. e) (bool_cases (unused? p))

pub long-not-empty : (x : Lease) → 0 < x.length → empty? x ≡ false
long-not-empty x h = ⊎_elim (λ (e : empty? x ≡ true). absurd (omega (arith, ap (λ (y : Lease). y.length) (empty-to x e)))) (λ e. e) (bool_cases (empty? x))

-- POOLS AND LEASES

-- A pool as document 01 says it.
pub record GoodPool (p : Pool) : Type 0 where
  pub short : 8 ≤ p.length
  pub long : p.length ≤ 30
  pub aligned : Aligned (pool_prefix p)
  pub within : end (pool_prefix p) ≤ addresses

pub pool_ok-to : (p : Pool) → pool_ok p ≡ true → GoodPool p
unfolding pool_ok
pool_ok-to p e =
    let t = and-list-to (pool_rules p) e in
    record {
      short = leb-true 8 p.length t.0;
      long = leb-true p.length 30 t.1.0;
      aligned = aligned-to (pool_prefix p) t.1.1.0;
      within = leb-true (end (pool_prefix p)) addresses t.1.1.1.0;
    }

pub pool_ok-of : (p : Pool) → GoodPool p → pool_ok p ≡ true
unfolding pool_ok
pool_ok-of p g =
    and-list-of (pool_rules p)
    (le-leb 8 p.length g.short, (le-leb p.length 30 g.long, (aligned-of (pool_prefix p) g.aligned, (le-leb (end (pool_prefix p)) addresses g.within, tt))))

-- A lease as document 01 says it, whose end is after a time.
pub record Good (pools : List Prefix) (now : ℕ) (x : Lease) : Type 0 where
  pub short : 1 ≤ x.length
  pub long : x.length ≤ 30
  pub aligned : Aligned (prefix_of x)
  pub client : x.client ≡ 0 → ⊥
  pub later : now < x.expires
  pub pooled : Any (Inside (prefix_of x)) pools

pub lease_ok-to : (pools : List Prefix) (now : ℕ) (x : Lease) → lease_ok pools now x ≡ true → Good pools now x
unfolding lease_ok
lease_ok-to pools now x e =
    let t = and-list-to (lease_rules pools now x) e in
    record {
      short = leb-true 1 x.length t.0;
      long = leb-true x.length 30 t.1.0;
      aligned = aligned-to (prefix_of x) t.1.1.0;
      client = eqb-false x.client 0 (not-true (eqb x.client 0) t.1.1.1.0);
      later = ltb-true now x.expires t.1.1.1.1.0;
      pooled = any?-to (inside? (prefix_of x)) (inside-to (prefix_of x)) pools t.1.1.1.1.1.0;
    }

pub lease_ok-of : (pools : List Prefix) (now : ℕ) (x : Lease) → Good pools now x → lease_ok pools now x ≡ true
unfolding lease_ok
lease_ok-of pools now x g =
    and-list-of (lease_rules pools now x)
    (le-leb 1 x.length g.short, (le-leb x.length 30 g.long, (aligned-of (prefix_of x) g.aligned, (not-of (eqb x.client 0) (ne_eqb x.client 0 g.client), (lt-ltb now x.expires g.later, (any?-of (inside? (prefix_of x)) (inside_of (prefix_of x)) pools g.pooled, tt))))))

-- A good lease stays good until it ends.
pub good-at : (pools : List Prefix) (last now : ℕ) (x : Lease) → Good pools last x → now < x.expires → Good pools now x
good-at pools last now x g h = record {
  short = g.short;
  long = g.long;
  aligned = g.aligned;
  client = g.client;
  later = h;
  pooled = g.pooled;
}

-- PRESENT LEASES

abbrev pub present? : ℕ → Lease → Bool
present? now x = ltb now x.expires

pub present-yes : (now : ℕ) (x : Lease) (xs : List Lease) → now < x.expires → present now (x ∷ xs) ≡ x ∷ present now xs
unfolding present
present-yes now x xs h = filter-yes (present? now) x xs (lt-ltb now x.expires h)

pub present-no : (now : ℕ) (x : Lease) (xs : List Lease) → x.expires ≤ now → present now (x ∷ xs) ≡ present now xs
unfolding present
present-no now x xs h = filter-no (present? now) x xs (le-ltb now x.expires h)

pub present-fewer : (now : ℕ) (xs : List Lease) → length (present now xs) ≤ length xs
unfolding present
present-fewer now xs = filter-fewer (present? now) xs

-- Empty slots are not present.
pub present-padded : (now k : ℕ) (xs : List Lease) → present now (xs ++ replicate k no_lease) ≡ present now xs
unfolding present
present-padded now k xs =
    filter-append (present? now) xs (replicate k no_lease)
    ∙ ap (λ (l : List Lease). filter (present? now) xs ++ l) (filter-replicate (present? now) k no_lease (le-ltb now 0 (omega arith)))
    ∙ append-nil (filter (present? now) xs)

-- What ends later is all present.
pub present-all : (pools : List Prefix) (now : ℕ) (xs : List Lease) → All (Good pools now) xs → present now xs ≡ xs
unfolding present
present-all pools now xs g = filter-whole (present? now) xs (all_map (λ x (h : Good pools now x). lt-ltb now x.expires h.later) xs g)

pub present-stored : (pools : List Prefix) (now : ℕ) (xs : List Lease) → All (Good pools now) xs → present now (padded xs) ≡ xs
present-stored pools now xs g = present-padded now (lease_slots - length xs) xs ∙ present-all pools now xs g

-- GOOD LEASES IN ORDER

-- What soundness says of the leases present at a time: each is good, and they ascend without overlap.
abbrev pub Fine : List Prefix → ℕ → ℕ → List Lease → Type 0
Fine pools now from xs = All (Good pools now) xs × Ascending prefix_of from xs

pub fine-filter : (pools : List Prefix) (now from : ℕ) (f : Lease → Bool) (xs : List Lease) → Fine pools now from xs → Fine pools now from (filter f xs)
fine-filter pools now from f xs h = (filter-all f (Good pools now) xs h.0, ascending-filter prefix_of f from xs h.1)

-- Later, those present are good still.
pub fine-present : (pools : List Prefix) (last now from : ℕ) (xs : List Lease) → Fine pools last from xs → Fine pools now from (present now xs)
unfolding present
fine-present pools last now from xs h =
    let f = fine-filter pools last from (present? now) xs h in
    (all-map₂ (λ x (g : Good pools last x) (e : present? now x ≡ true). good-at pools last now x g (ltb-true now x.expires e)) (filter (present? now) xs) f.0 (filter-pass (present? now) xs), f.1)

-- Changing leases in what does not belong to their place.
pub fine-map : (pools : List Prefix) (now from : ℕ) (f : Lease → Lease) → ((x : Lease) → prefix_of (f x) ≡ prefix_of x) → ((x : Lease) → Good pools now x → Good pools now (f x))
    → (xs : List Lease) → Fine pools now from xs → Fine pools now from (map f xs)
fine-map pools now from f same good xs h = (all-image f (Good pools now) xs (all_map good xs h.0), ascending-map prefix_of f same from xs h.1)

pub fine-long : (pools : List Prefix) (now from : ℕ) (xs : List Lease) → Fine pools now from xs → All (λ (x : Lease). 1 ≤ x.length) xs
fine-long pools now from xs h = all_map (λ x (g : Good pools now x). g.short) xs h.0

-- No two share an address.
pub fine-apart : (pools : List Prefix) (now from : ℕ) (xs : List Lease) → Fine pools now from xs → Pairwise Apart (map prefix_of xs)
fine-apart pools now from xs h = pairwise_image prefix_of Apart xs (ascending-apart prefix_of from xs h.1)

-- WHAT SOUNDNESS SAYS

-- The pools of a sound table.
pub record GoodPools (ps : List Pool) : Type 0 where
  pub good : All GoodPool ps
  pub ascending : Ascending pool_prefix 0 ps

module _ (t : LeaseTable) (e : sound t ≡ true) where
  rules : All (λ (b : Bool). b ≡ true) (table_rules t)
  unfolding sound
  rules = and-list-to (table_rules t) e

  pub sound-slots : length t.leases ≡ lease_slots
  sound-slots = eqb-true (length t.leases) lease_slots rules.1.0

  pub sound-pool-slots : length t.pools ≡ pool_slots
  sound-pool-slots = eqb-true (length t.pools) pool_slots rules.0

  pub sound-head : head_ok t.term t.default_length t.last ≡ true
  sound-head = rules.1.1.0

  headed : All (λ (b : Bool). b ≡ true) (head_rules t.term t.default_length t.last)
  unfolding head_ok
  headed = and-list-to (head_rules t.term t.default_length t.last) sound-head

  pub sound-term : (60 ≤ t.term) × (t.term ≤ 2592000)
  sound-term = (leb-true 60 t.term headed.0, leb-true t.term 2592000 headed.1.0)

  pub sound-default : (1 ≤ t.default_length) × (t.default_length ≤ 30)
  sound-default = (leb-true 1 t.default_length headed.1.1.0, leb-true t.default_length 30 headed.1.1.1.0)

  pool_slots_of : Slots unused? pool_ok pool_prefix no_pool 0 t.pools
  pool_slots_of = ascends-to unused? pool_ok pool_prefix no_pool unused-to 0 t.pools rules.1.1.1.1.0

  pub sound-pools : GoodPools (used unused? t.pools)
  sound-pools = record {
    good = all_map pool_ok-to (used unused? t.pools) pool_slots_of.good;
    ascending = pool_slots_of.ascending;
  }

  -- "unused roots follow and are all zero"
  pub sound-pools-whole : t.pools ≡ used unused? t.pools ++ replicate (pool_slots - length (used unused? t.pools)) no_pool
  sound-pools-whole = subst (λ (n : ℕ). t.pools ≡ used unused? t.pools ++ replicate (n - length (used unused? t.pools)) no_pool) sound-pool-slots pool_slots_of.whole

  lease_slots_of : Slots empty? (lease_ok (pools_of t) t.last) prefix_of no_lease 0 t.leases
  lease_slots_of = ascends-to empty? (lease_ok (pools_of t) t.last) prefix_of no_lease empty-to 0 t.leases rules.1.1.1.1.1.0

  used_fine : Fine (pools_of t) t.last 0 (used empty? t.leases)
  used_fine = (all_map (lease_ok-to (pools_of t) t.last) (used empty? t.leases) lease_slots_of.good, lease_slots_of.ascending)

  used_whole : t.leases ≡ padded (used empty? t.leases)
  used_whole = subst (λ (n : ℕ). t.leases ≡ used empty? t.leases ++ replicate (n - length (used empty? t.leases)) no_lease) sound-slots lease_slots_of.whole

  -- At the last time every lease of a sound table is present.
  pub sound-used : used empty? t.leases ≡ present t.last t.leases
  sound-used = sym (ap (present t.last) used_whole ∙ present-stored (pools_of t) t.last (used empty? t.leases) used_fine.0)

  -- "empty lines .. follow and are all zero"
  pub sound-whole : t.leases ≡ padded (present t.last t.leases)
  sound-whole = subst (λ (l : List Lease). t.leases ≡ padded l) sound-used used_whole

  -- The leases present at any time are good and ascend without overlap.
  pub sound-fine : (now : ℕ) → Fine (pools_of t) now 0 (present now t.leases)
  sound-fine now =
      let same : present now t.leases ≡ present now (used empty? t.leases) =
      ap (present now) used_whole ∙ present-padded now (lease_slots - length (used empty? t.leases)) (used empty? t.leases) in
      subst (Fine (pools_of t) now 0) (sym same) (fine-present (pools_of t) t.last now 0 (used empty? t.leases) used_fine)

  pub sound-fewer : (now : ℕ) → length (present now t.leases) ≤ lease_slots
  sound-fewer now = omega (arith, present-fewer now t.leases, sound-slots)

-- What is left to test of a table that has its slots.
pub sound-tests : (t : LeaseTable) → length t.pools ≡ pool_slots → length t.leases ≡ lease_slots
    → sound t ≡ head_ok t.term t.default_length t.last && (ltb 0 (length (pools_of t)) && (pools_ascend? t.pools && leases_ascend? (pools_of t) t.last 0 t.leases))
unfolding sound
sound-tests t p l =
    rw (eq-eqb (length t.pools) pool_slots p, eq-eqb (length t.leases) lease_slots l, and-true (leases_ascend? (pools_of t) t.last 0 t.leases)) refl

-- GOOD LEASES, STORED, MAKE A SOUND TABLE

pub length-padded : (xs : List Lease) → length xs ≤ lease_slots → length (padded xs) ≡ lease_slots
length-padded xs n = length-append xs (replicate (lease_slots - length xs) no_lease) ∙ omega (arith, length-replicate (lease_slots - length xs) no_lease)

pub fine-ascends : (pools : List Prefix) (now from k : ℕ) (xs : List Lease) → Fine pools now from xs → leases_ascend? pools now from (xs ++ replicate k no_lease) ≡ true
fine-ascends pools now from k xs f =
    ascends-of empty? (lease_ok pools now) prefix_of no_lease empty_of from k xs
    (all_map (λ x (h : 1 ≤ x.length). long-not-empty x h) xs (fine-long pools now from xs f)) (all_map (lease_ok-of pools now) xs f.0) f.1

pub store-sound : (t : LeaseTable) (now : ℕ) (xs : List Lease) → sound t ≡ true → now ≤ latest → length xs ≤ lease_slots → Fine (pools_of t) now 0 xs → sound (store t now xs) ≡ true
unfolding sound head_ok store
store-sound t now xs e l n f =
    let r = and-list-to (table_rules t) e in
    let h = and-list-to (head_rules t.term t.default_length t.last) r.1.1.0 in
    and-list-of (table_rules (store t now xs)) (
      r.0,
      (
        eq-eqb (length (padded xs)) lease_slots (length-padded xs n),
        (
          and-list-of (head_rules t.term t.default_length now) (h.0, (h.1.0, (h.1.1.0, (h.1.1.1.0, (le-leb now latest l, tt))))),
          (r.1.1.1.0, (r.1.1.1.1.0, (fine-ascends (pools_of t) now 0 (lease_slots - length xs) xs f, tt))),
        ),
      ),
    )

-- INSERTION

-- A good lease that shares no address with the others, inserted.
pub insert-fine : (pools : List Prefix) (now : ℕ) (x : Lease) (ys : List Lease) → Good pools now x → All (Apart (prefix_of x)) (map prefix_of ys) → Fine pools now 0 ys → Fine pools now 0 (insert x ys)
insert-fine pools now x ys g a f =
    (insert_by-all network_of (Good pools now) x ys g f.0, ascending-insert prefix_of 0 x ys (omega arith) (all-preimage prefix_of (Apart (prefix_of x)) ys a) f.1)

-- Removing expired leases keeps a sound table sound, and so does leaving out any others.
pub filter-sound : (t : LeaseTable) (now : ℕ) (f : Lease → Bool) → sound t ≡ true → now ≤ latest → sound (store t now (filter f (present now t.leases))) ≡ true
filter-sound t now f e l =
    let xs : List Lease = present now t.leases in
    store-sound t now (filter f xs) e l (omega (arith, filter-fewer f xs, sound-fewer t e now)) (fine-filter (pools_of t) now 0 f xs (sound-fine t e now))

-- Changing leases in what does not belong to their place, if each stays good.
pub map-sound : (t : LeaseTable) (now : ℕ) (f : Lease → Lease) → ((x : Lease) → prefix_of (f x) ≡ prefix_of x) → ((x : Lease) → Good (pools_of t) now x → Good (pools_of t) now (f x))
    → sound t ≡ true → now ≤ latest → sound (store t now (map f (present now t.leases))) ≡ true
map-sound t now f same good e l =
    let xs : List Lease = present now t.leases in
    store-sound t now (map f xs) e l (omega (arith, length-map xs f, sound-fewer t e now)) (fine-map (pools_of t) now 0 f same good xs (sound-fine t e now))

-- WHAT STORING TOUCHES: the leases and the last time, and nothing else.

module _ (t : LeaseTable) (now : ℕ) (xs : List Lease) where
  pub store-last : (store t now xs).last ≡ now
  unfolding store
  store-last = refl
