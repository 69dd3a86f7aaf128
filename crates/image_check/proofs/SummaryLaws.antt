-- The answer for an image, from what is left of its bytes: what the pass knows after each lease.
-- Assumes nothing.
use Prim.Native.Nat.{ℕ, zero, suc, ◌+◌, ◌-◌, ◌*◌, ◌≤◌, ◌<◌}
use mathlib.Core.Path.{◌≡◌, refl, sym, ap, ap₂, subst, ◌∙◌}
use mathlib.Core.Logic.{◌⊎◌, ⊎_elim}
use mathlib.Core.Bool.{Bool, true, false, cond, ◌&&◌, true≢false}
use mathlib.Core.List.{List, [], ◌∷◌, ◌++◌, map}
use mathlib.Core.Option.{Option, none, some}
use native.Mathlib.Nat.{add-zero}
use native.Mathlib.Omega.{arith}
use lib.ListN.{length, drop, replicate, length-map, length-append, length-replicate}
use lib.Dec.{leb, ltb, eqb}
use borrow.Author.Tests.{leb-true, le-leb, ltb-true, lt-ltb, eqb-true}
use Rattle.std.specs.Prelude.{Option as Maybe, Some, None}
use Rattle.std.proofs.lemmas.Option.{none-some}
use Rattle.lists.specs.Lists.{All, and, any?, filter}
use Rattle.lists.proofs.Tests.{bool_cases, and-to, cond-true, cond-false, not-true⇒false, and-list-to}
use Rattle.lists.proofs.FilterLaws.{filter-yes, filter-no}
use Rattle.prefix.specs.declared.Prefix.{Prefix}
use Rattle.prefix.specs.Prefixes.{end, inside?}
use Rattle.table.specs.declared.Pool.{Pool}
use Rattle.table.specs.declared.Lease.{Lease}
use Rattle.table.specs.declared.LeaseTable.{LeaseTable}
use Rattle.table.specs.Table.{pool_slots, lease_slots, no_pool, no_lease, pool_prefix, prefix_of, unused?, empty?, prefixes_of, head_ok, pool_ok, lease_ok, ascends?, pools_ascend?, leases_ascend?, sound, padded, padded_pools}
use Rattle.table.proofs.Ascending.{blanks}
use Rattle.table.proofs.TableLaws.{unused-of, empty_of, sound-tests, length-padded}
use Rattle.image.specs.declared.Head.{Head}
use Rattle.image.specs.declared.Form.{Form}
use Rattle.image.specs.Fields.{Run}
use Rattle.image.specs.Image.{lease_size_in, loaded_table, pool_size}
use Rattle.image.specs.Reading.{lease_at_in, pools_at, leases_at_in, table_with, after_head_in, network_in}
use Rattle.image.proofs.FieldLaws.{records-none, records-some}
use Rattle.image.proofs.ImageLaws.{used-pools, used-leases}
use Rattle.image_check.specs.declared.ImageSummary.{ImageSummary}
use Rattle.image_check.specs.ImageSummary.{summary_at, summary_of}
use Rattle.image_check.specs.Inner.{pool_count, prefix_in, due, Begun}
use Rattle.image_check.specs.InnerPass.{summary_with, due?, left?, ending, leases_from}
use Rattle.image_check.proofs.RunLaws.{pools-taken, lease-known, leases-taken}
use Rattle.image_check.proofs.FitLaws.{size-least, Fits, read_fits}

-- WHAT IS READ AS A TABLE

-- Empty slots behind slots that are none do not matter.
ascends-padded : {A : Type 0} (none? ok : A → Bool) (pre : A → Prefix) (blank : A) → none? blank ≡ true → (from k : ℕ) (xs : List A) → All (λ x. none? x ≡ false) xs
    → ascends? none? ok pre from (xs ++ replicate k blank) ≡ ascends? none? ok pre from xs
unfolding ascends?
ascends-padded none? ok pre blank b from zero [] a = refl
ascends-padded none? ok pre blank b from (suc k) [] a = cond-true (none? blank) _ _ b ∙ blanks none? ok pre blank b k
ascends-padded none? ok pre blank b from k (x ∷ xs) a =
    cond-false (none? x) _ _ a.0
    ∙ ap (λ (r : Bool). leb from (pre x).network && (ok x && r)) (ascends-padded none? ok pre blank b (end (pre x)) k xs a.1)
    ∙ sym (cond-false (none? x) _ _ a.0)

-- The table of a head, pools and leases that were read: what is left to test of it, and what its book is.
module _ (x : Head) (ps : List Pool) (xs : List Lease) (few : length ps ≤ pool_slots) (fewer : length xs ≤ lease_slots) (pools : All (λ p. unused? p ≡ false) ps)
    (leases : All (λ y. empty? y ≡ false) xs) where
  abbrev table : LeaseTable
  table = table_with x ps xs

  prefixes : prefixes_of (padded_pools ps) ≡ map pool_prefix ps
  unfolding prefixes_of
  prefixes = ap (map pool_prefix) (used-pools (pool_slots - length ps) ps pools)

  table-sound : sound table
      ≡ head_ok x.term x.default_length x.last && (ltb 0 (length ps) && (pools_ascend? ps && leases_ascend? (map pool_prefix ps) x.last 0 xs))
  table-sound =
      let ok : Bool = head_ok x.term x.default_length x.last in
      let slots : length (padded_pools ps) ≡ pool_slots = length-append ps (replicate (pool_slots - length ps) no_pool) ∙ omega (arith, length-replicate (pool_slots - length ps) no_pool) in
      sound-tests table slots (length-padded xs fewer)
      ∙ ap (λ (qs : List Prefix). ok && (ltb 0 (length qs) && (pools_ascend? (padded_pools ps) && leases_ascend? qs x.last 0 (padded xs)))) prefixes
      ∙ ap (λ (n : ℕ). ok && (ltb 0 n && (pools_ascend? (padded_pools ps) && leases_ascend? (map pool_prefix ps) x.last 0 (padded xs)))) (length-map ps pool_prefix)
      ∙ ap₂ (λ (a b : Bool). ok && (ltb 0 (length ps) && (a && b)))
      (ascends-padded unused? pool_ok pool_prefix no_pool unused-of 0 (pool_slots - length ps) ps pools)
      (ascends-padded empty? (lease_ok (map pool_prefix ps) x.last) prefix_of no_lease empty_of 0 (lease_slots - length xs) xs leases)

  table-summary : (time : ℕ) (b : Bool) → summary_of time (cond b (some table) none) ≡ cond b (summary_with x (length ps) (length xs) (length (filter (due? time) xs))) None
  table-summary time true =
      ap₂ (λ (l : List Pool) (m : List Lease). summary_with x (length l) (length m) (length (filter (due? time) m)))
      (used-pools (pool_slots - length ps) ps pools) (used-leases (lease_slots - length xs) xs leases)
  table-summary time false = refl

-- WHAT IS LEFT

-- The bytes after a head: the pools, and the leases after them.
module _ (form : Form) (x : Head) (s : List ℕ) where
  abbrev ps : List Pool
  ps = (pools_at s).items

  abbrev xs : Run Lease
  xs = leases_at_in form (pools_at s).rest

  read-summary : (time : ℕ) → summary_of time (after_head_in form (some x) s)
      ≡ cond (and (eqb (length xs.rest) 0 ∷ (head_ok x.term x.default_length x.last && (ltb 0 (length ps) && (pools_ascend? ps && leases_ascend? (map pool_prefix ps) x.last 0 xs.items))) ∷ []))
      (summary_with x (length ps) (length xs.items) (length (filter (due? time) xs.items))) None
  read-summary time =
      let p = pools-taken s in
      let q = leases-taken form lease_slots (pools_at s).rest in
      table-summary x ps xs.items p.few q.few p.each q.each time (and (eqb (length xs.rest) 0 ∷ sound (table_with x ps xs.items) ∷ []))
      ∙ ap (λ (b : Bool). cond (and (eqb (length xs.rest) 0 ∷ b ∷ [])) (summary_with x (length ps) (length xs.items) (length (filter (due? time) xs.items))) None)
      (table-sound x ps xs.items p.few q.few p.each q.each)

  -- A head or pools that no sound table has.
  pub read-unsound : (time : ℕ) → (head_ok x.term x.default_length x.last ≡ false) ⊎ ((n : ℕ) → pool_count ps ≡ Some n → n ≡ 0) → summary_of time (after_head_in form (some x) s) ≡ None
  read-unsound time bad =
      let rules : List Bool = eqb (length xs.rest) 0 ∷ (head_ok x.term x.default_length x.last && (ltb 0 (length ps) && (pools_ascend? ps && leases_ascend? (map pool_prefix ps) x.last 0 xs.items))) ∷ [] in
      read-summary time ∙ cond-false (and rules) _ _ (not-true⇒false (and rules) (λ e. none-sound (head_ok x.term x.default_length x.last) (pools_ascend? ps) (leases_ascend? (map pool_prefix ps) x.last 0 xs.items) (length ps) (and-list-to rules e).1.0 bad))
    where
      none-sound : (h p l : Bool) (n : ℕ) → (h && (ltb 0 n && (p && l))) ≡ true → (h ≡ false) ⊎ ((m : ℕ) → cond p (Some n) None ≡ Some m → m ≡ 0) → ⊥
      none-sound h p l n e bad =
          let t = and-to h (ltb 0 n && (p && l)) e in
          let u = and-to (ltb 0 n) (p && l) t.1 in
          let v = and-to p l u.1 in
          ⊎_elim (λ (f : h ≡ false). true≢false (sym t.0 ∙ f))
          (λ (z : (m : ℕ) → cond p (Some n) None ≡ Some m → m ≡ 0). omega (arith, ltb-true 0 n u.0, z n (cond-true p (Some n) None v.0)))
          bad

  module _ (n : ℕ) (begun : Begun x s n) where
    pub read-begun : (time : ℕ) → summary_of time (after_head_in form (some x) s) ≡ ending x time n (map pool_prefix ps) 0 0 0 (leases_from form lease_slots (drop (pool_size * n) s))
    read-begun time =
        let qs : List Prefix = map pool_prefix ps in
        let rest : Bool = leases_ascend? qs x.last 0 xs.items in
        let few : 0 < length ps = omega (arith, begun.counted, begun.any) in
        let ok : (head_ok x.term x.default_length x.last && (ltb 0 (length ps) && (pools_ascend? ps && rest))) ≡ rest = rw (begun.headed, lt-ltb 0 (length ps) few, begun.ascends) in
        read-summary time
        ∙ ap (λ (b : Bool). cond (and (eqb (length xs.rest) 0 ∷ b ∷ [])) (summary_with x (length ps) (length xs.items) (length (filter (due? time) xs.items))) None) ok
        ∙ ap (λ (m : ℕ). cond (left? qs x.last 0 xs) (summary_with x m (length xs.items) (length (filter (due? time) xs.items))) None) (sym begun.counted)
        ∙ ap₂ (λ (l e : ℕ). cond (left? qs x.last 0 xs) (summary_with x n l e) None) (omega arith) (omega arith)
        ∙ ap (λ (u : List ℕ). ending x time n qs 0 0 0 (leases_from form lease_slots u)) ((pools-taken s).rest ∙ ap (λ (m : ℕ). drop (pool_size * m) s) (sym begun.counted))

-- One lease further.
module _ (x : Head) (time n : ℕ) (qs : List Prefix) where
  pub ending-none : (i e low : ℕ) → ending x time n qs i e low (record { items = []; rest = [] }) ≡ summary_with x n i e
  unfolding ascends?
  ending-none i e low = ap₂ (summary_with x n) (add-zero i) (add-zero e)

  pub ending-unsound : (i e low : ℕ) (r : Run Lease) → (left? qs x.last low r ≡ true → ⊥) → ending x time n qs i e low r ≡ None
  ending-unsound i e low r h = cond-false (left? qs x.last low r) _ _ (not-true⇒false (left? qs x.last low r) h)

  one_more : (e : ℕ) (y : Lease) (ys : List Lease) → e + length (filter (due? time) (y ∷ ys)) ≡ e + due y.expires time + length (filter (due? time) ys)
  one_more e y ys =
      ⊎_elim
      (λ (t : due? time y ≡ true). omega (arith, ap length (filter-yes (due? time) y ys t), cond-true {A = ℕ} (leb y.expires time) 1 0 t))
      (λ (t : due? time y ≡ false). omega (arith, ap length (filter-no (due? time) y ys t), cond-false {A = ℕ} (leb y.expires time) 1 0 t))
      (bool_cases (due? time y))

  module _ (form : Form) (low k : ℕ) (u : List ℕ) (y : Lease) (read : lease_at_in form u ≡ some y) where
    abbrev later : Run Lease
    later = leases_from form k (drop (lease_size_in form) u)

    ascends-first : leases_ascend? qs x.last low (y ∷ later.items) ≡ leb low y.network && (lease_ok qs x.last y && leases_ascend? qs x.last (end (prefix_of y)) later.items)
    unfolding ascends?
    ascends-first = cond-false (empty? y) _ _ (lease-known form u y read).2

    pub ending-next : (i e : ℕ) → low ≤ y.network → lease_ok qs x.last y ≡ true
        → ending x time n qs i e low (leases_from form (suc k) u) ≡ ending x time n qs (i + 1) (e + due y.expires time) (end (prefix_of y)) later
    ending-next i e l o =
        let rest : Bool = leases_ascend? qs x.last (end (prefix_of y)) later.items in
        let ok : (leb low y.network && (lease_ok qs x.last y && rest)) ≡ rest = rw (le-leb low y.network l, o) in
        ap (ending x time n qs i e low) (records-some (lease_at_in form) (lease_size_in form) k u y read)
        ∙ ap₂ (λ (b : Bool) (summary : Maybe ImageSummary). cond (and (eqb (length later.rest) 0 ∷ b ∷ [])) summary None)
        (ascends-first ∙ ok)
        (ap₂ (summary_with x n) (omega arith) (one_more e y later.items))

    left-some : left? qs x.last low (leases_from form (suc k) u) ≡ true → Fits form x.last u × (low ≤ network_in u) × (any? (inside? (prefix_in u)) qs ≡ true)
    left-some e =
        let t = and-list-to (eqb (length later.rest) 0 ∷ leases_ascend? qs x.last low (y ∷ later.items) ∷ []) (ap (left? qs x.last low) (sym (records-some (lease_at_in form) (lease_size_in form) k u y read)) ∙ e) in
        let a = and-to (leb low y.network) _ (sym ascends-first ∙ t.1.0) in
        let f = read_fits form x.last u qs y read (and-to (lease_ok qs x.last y) _ a.1).0 in
        (f.0, subst (λ (z : Lease). low ≤ z.network) f.1 (leb-true low y.network a.0), f.2)

  pub left-fits : (form : Form) (low k : ℕ) (u : List ℕ) → lease_size_in form ≤ length u → left? qs x.last low (leases_from form (suc k) u) ≡ true
      → Fits form x.last u × (low ≤ network_in u) × (any? (inside? (prefix_in u)) qs ≡ true)
  left-fits form low k u long e = cases (lease_at_in form u) refl
    where
      cases : (o : Option Lease) → lease_at_in form u ≡ o → Fits form x.last u × (low ≤ network_in u) × (any? (inside? (prefix_in u)) qs ≡ true)
      cases none read =
          let t = and-list-to (eqb (length u) 0 ∷ leases_ascend? qs x.last low [] ∷ []) (ap (left? qs x.last low) (sym (records-none (lease_at_in form) (lease_size_in form) (suc k) u read)) ∙ e) in
          absurd (omega (arith, eqb-true (length u) 0 t.0, size-least form))
      cases (some y) read = left-some form low k u y read e

-- WHAT A SUMMARY TELLS

pub summary-some : (time : ℕ) (o : Option LeaseTable) (x : ImageSummary) → Some x ≡ summary_of time o → o ≡ some (loaded_table o)
summary-some time none x e = absurd (none-some x (sym e))
summary-some time (some t) x e = refl

pub summary-none : (time : ℕ) (o : Option LeaseTable) → None ≡ summary_of time o → o ≡ none
summary-none time none e = refl
summary-none time (some t) e = absurd (none-some (summary_at time t) e)
