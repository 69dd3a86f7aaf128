-- Laws of the image, over its form: each record reads back, load and save undo each other on sound tables that fit the form, one table has one image in each
-- form, and how long it is. A law whose name ends in `-in` is over the form, and that without is for the second form, on which the calls work.
-- Assumes nothing.
use Prim.Native.Nat.{ℕ, zero, suc, ◌+◌, ◌-◌, ◌*◌, ◌/◌, ◌%◌, ◌≤◌, ◌<◌}
use mathlib.Core.Path.{◌≡◌, refl, sym, ap, ap₂, subst, ◌∙◌}
use mathlib.Core.Logic.{◌↔◌}
use mathlib.Core.Bool.{Bool, true, false, not, cond, ◌&&◌}
use mathlib.Core.List.{List, [], ◌∷◌, ◌++◌, append-nil}
use mathlib.Core.Option.{Option, none, some}
use native.Mathlib.Omega.{arith}
use lib.ListN.{length, take, drop, get_or, replicate, length-append, length-drop, take-append-drop}
use lib.Seq.{drop-drop}
use lib.Dec.{leb, eqb}
use borrow.Author.Tests.{leb-true, le-leb, eqb-true, eq-eqb, not-true}
use Rattle.lists.specs.Lists.{All, and, filter, concat_map}
use Rattle.lists.proofs.ConcatMapLaws as concat_map-laws
use Rattle.lists.proofs.Tests.{not-of, cond-true, cond-false, and-list-to, and-list-of, all?-to, all?-of}
use Rattle.lists.proofs.ListLaws.{all_map, all-map₂, all_append, all_right, all-every}
use Rattle.lists.proofs.DropLaws.{drop_at, all_drop}
use Rattle.lists.proofs.FilterLaws.{filter-all, filter-whole, filter-append, filter-replicate, filter-fewer, filter-pass, all_replicate}
use Rattle.names.specs.declared.Name.{Name}
use Rattle.names.specs.Names.{longest_name, octets, unnamed?, name_octets, name_in, name_length}
use Rattle.names.proofs.NameLaws.{name-reads, name-written, unnamed-to, unnamed-of}
use Rattle.table.specs.declared.Pool.{Pool}
use Rattle.table.specs.declared.Lease.{Lease}
use Rattle.table.specs.declared.LeaseTable.{LeaseTable}
use Rattle.table.specs.Table.{pool_slots, lease_slots, no_pool, no_lease, unused?, empty?, sound_for, sound, padded_to}
use Rattle.table.proofs.TableLaws.{unused-of, empty_of, sound-slots, sound-pool-slots}
use Rattle.table.proofs.OlderLaws.{sound-ours, slots-for, pool-slots-for, pools-whole-for, leases-whole-for}
use Rattle.image.specs.declared.Head.{Head}
use Rattle.image.specs.declared.Form.{Form}
use Rattle.image.specs.declared.Form.TheVariants.{First, Second}
use Rattle.image.specs.Fields.{number16, number32, Run}
use Rattle.image.specs.Image.{le16, le32, head_kind, head_record_in, head_record, pool_record, lease_kind, name_record, lease_record_in, lease_record, state_byte, flags_byte, used_pools, used_leases, head_of, image_as, image_of, fits_form}
use Rattle.image.specs.Image.{head_size, pool_size, lease_size_in, lease_size, full_image_in, full_image}
use Rattle.image.specs.Reading.{state_byte_in, flags_byte_in, expires_in, name_length_at, name_at, name_field_in, name_test, head_in, head_tests_in, head_at_in, pool_in, pool_tests, pool_at}
use Rattle.image.specs.Reading.{lease_fields_in, lease_tests_in, lease_at_in, lease_at, pools_at, leases_within, table_for, table_with, whole_for, after_head_in, after_head_for, load_in, load_for, load_image}
use Rattle.image.proofs.FieldLaws.{Bytes, bytes_of, bytes-all, bytes_drop, spell32, le16-number, le32-number, spelled, front-spelled, records-concat_map, readings}

-- EACH RECORD READS BACK

pub some_same : {A : Type 0} (b : Bool) (x y : A) → cond b (some x) none ≡ some y → (b ≡ true) × (x ≡ y)
some_same true x y e = (refl, cc)
some_same false x y e = let z : ◌≡◌ {A = ℕ} 0 1 = cc in absurd (omega arith)

abbrev head : ℕ → ℕ → ℕ → Head
head term default_length last = record { term = term; default_length = default_length; last = last }

spell16 : (n : ℕ) → n % 256 + 256 * (n / 256) ≡ n
spell16 n = omega arith

module _ (form : Form) (x : Head) (q : List ℕ) where
  pub head-reads : head_at_in form (head_record_in form x ++ q) ≡ some x
  unfolding head_at_in head_record_in le16 le32 number16 number32
  head-reads =
      let s : List ℕ = head_record_in form x ++ q in
      cond-true (and (head_tests_in form s)) (some (head_in s)) none
      (and-list-of (head_tests_in form s) (le-leb head_size (length s) (omega arith), (refl, (eq-eqb (number16 s 2) (head_kind form) (spell16 (head_kind form)), tt))))
      ∙ ap₂ (λ (t l : ℕ). some (head t x.default_length l)) (spell32 x.term) (spell32 x.last)

  pub head-skips : drop head_size (head_record_in form x ++ q) ≡ q
  unfolding head_record_in le16 le32
  head-skips = refl

-- What is read stood there as it is written.
head-written : (form : Form) (s : List ℕ) (x : Head) → Bytes s → head_at_in form s ≡ some x → s ≡ head_record_in form x ++ drop head_size s
unfolding head_at_in head_record_in
head-written form s x b e =
    let p = some_same (and (head_tests_in form s)) (head_in s) x e in
    let t = and-list-to (head_tests_in form s) p.0 in
    let len : le16 (head_size - 2) ≡ get_or s 0 0 ∷ get_or s 1 0 ∷ [] = ap le16 (sym (eqb-true (number16 s 0) (head_size - 2) t.1.0)) ∙ le16-number s b 0 in
    let kind : le16 (head_kind form) ≡ get_or s 2 0 ∷ get_or s 3 0 ∷ [] = ap le16 (sym (eqb-true (number16 s 2) (head_kind form) t.1.1.0)) ∙ le16-number s b 2 in
    let same : head_record_in form (head_in s) ≡ spelled 0 head_size s = rw (len, kind, le32-number s b 4, le32-number s b 9) in
    front-spelled head_size s (leb-true head_size (length s) t.0) ∙ ap (λ (l : List ℕ). l ++ drop head_size s) (sym same ∙ ap (head_record_in form) p.1)

module _ (p : Pool) (q : List ℕ) where
  pub pool-reads : unused? p ≡ false → pool_at (pool_record p ++ q) ≡ some p
  unfolding pool_at pool_record le16 le32 number16 number32
  pool-reads used =
      let s : List ℕ = pool_record p ++ q in
      let same : pool_in s ≡ p = ap (λ (n : ℕ). record { network = n; length = p.length }) (spell32 p.network) in
      cond-true (and (pool_tests s)) (some (pool_in s)) none
      (and-list-of (pool_tests s) (le-leb pool_size (length s) (omega arith), (refl, (refl, (not-of (unused? (pool_in s)) (ap unused? same ∙ used), tt)))))
      ∙ ap some same

  pub pool-skips : drop pool_size (pool_record p ++ q) ≡ q
  unfolding pool_record le16 le32
  pool-skips = refl

pub pool-written : (s : List ℕ) (p : Pool) → Bytes s → pool_at s ≡ some p → (s ≡ pool_record p ++ drop pool_size s) × (unused? p ≡ false)
unfolding pool_at pool_record
pool-written s p b e =
    let q = some_same (and (pool_tests s)) (pool_in s) p e in
    let t = and-list-to (pool_tests s) q.0 in
    let len : le16 (pool_size - 2) ≡ get_or s 0 0 ∷ get_or s 1 0 ∷ [] = ap le16 (sym (eqb-true (number16 s 0) (pool_size - 2) t.1.0)) ∙ le16-number s b 0 in
    let kind : le16 2 ≡ get_or s 2 0 ∷ get_or s 3 0 ∷ [] = ap le16 (sym (eqb-true (number16 s 2) 2 t.1.1.0)) ∙ le16-number s b 2 in
    let same : pool_record (pool_in s) ≡ spelled 0 pool_size s = rw (len, kind, le32-number s b 4) in (
      front-spelled pool_size s (leb-true pool_size (length s) t.0) ∙ ap (λ (l : List ℕ). l ++ drop pool_size s) (sym same ∙ ap pool_record q.1),
      ap unused? (sym q.1) ∙ not-true (unused? (pool_in s)) t.1.1.1.0,
    )

-- The byte of the state and that of the flags, read and written.
state-reads : (b : Bool) → eqb (state_byte b) 2 ≡ b
state-reads true = refl
state-reads false = refl

h-reads : (h d : Bool) → eqb (flags_byte h d % 2) 1 ≡ h
h-reads true true = refl
h-reads true false = refl
h-reads false true = refl
h-reads false false = refl

d-reads : (h d : Bool) → eqb (flags_byte h d / 2 % 2) 1 ≡ d
d-reads true true = refl
d-reads true false = refl
d-reads false true = refl
d-reads false false = refl

state-range : (b : Bool) → (1 ≤ state_byte b) × (state_byte b ≤ 2)
state-range true = (omega arith, omega arith)
state-range false = (omega arith, omega arith)

flags-range : (h d : Bool) → flags_byte h d ≤ 3
flags-range true true = omega arith
flags-range true false = omega arith
flags-range false true = omega arith
flags-range false false = omega arith

state-written : (n : ℕ) → 1 ≤ n → n ≤ 2 → state_byte (eqb n 2) ≡ n
state-written zero a b = absurd (omega arith)
state-written (suc zero) a b = refl
state-written (suc (suc zero)) a b = refl
state-written (suc (suc (suc n))) a b = absurd (omega arith)

flags-written : (n : ℕ) → n ≤ 3 → flags_byte (eqb (n % 2) 1) (eqb (n / 2 % 2) 1) ≡ n
flags-written zero a = refl
flags-written (suc zero) a = refl
flags-written (suc (suc zero)) a = refl
flags-written (suc (suc (suc zero))) a = refl
flags-written (suc (suc (suc (suc n)))) a = absurd (omega arith)

abbrev lease : ℕ → ℕ → ℕ → Bool → Bool → Bool → ℕ → Name → Lease
lease n l c le h d e m = record { network = n; length = l; client = c; leased = le; h = h; d = d; expires = e; name = m }

-- A name that the form has a place for.
abbrev pub name_fits : Form → Name → Bool
name_fits First n = unnamed? n
name_fits Second n = true

pub length-lease-in : (form : Form) (x : Lease) → length (lease_record_in form x) ≡ lease_size_in form
unfolding lease_record_in le16 le32 name_octets octets
length-lease-in First x = refl
length-lease-in Second x = refl

pub lease-skips : (form : Form) (x : Lease) (q : List ℕ) → drop (lease_size_in form) (lease_record_in form x ++ q) ≡ q
unfolding lease_record_in le16 le32 name_octets octets
lease-skips First x q = refl
lease-skips Second x q = refl

name-reads-in : (form : Form) (x : Lease) (q : List ℕ) → name_fits form x.name ≡ true → name_field_in form (lease_record_in form x ++ q) ≡ x.name
unfolding lease_record_in le16 le32
name-reads-in First x q fits = sym (unnamed-to x.name fits)
name-reads-in Second x q fits = name-reads x.name q

name-passes : (form : Form) (x : Lease) (q : List ℕ) → name_test form (lease_record_in form x ++ q) ≡ true
unfolding lease_record_in le16 le32
name-passes First x q = refl
name-passes Second x q = eq-eqb (name_length x.name) (name_length (name_in (name_octets x.name ++ q))) (ap name_length (sym (name-reads x.name q)))

pub lease-reads-in : (form : Form) (x : Lease) (q : List ℕ) → name_fits form x.name ≡ true → empty? x ≡ false → lease_at_in form (lease_record_in form x ++ q) ≡ some x
unfolding lease_at_in lease_record_in le16 le32 number16 number32
lease-reads-in form x q fits used =
    let s : List ℕ = lease_record_in form x ++ q in
    let state : Bool = eqb (state_byte x.leased) 2 in
    let h : Bool = eqb (flags_byte x.h x.d % 2) 1 in
    let d : Bool = eqb (flags_byte x.h x.d / 2 % 2) 1 in
    let same : lease_fields_in form s ≡ x =
    ap₂ (λ (n c : ℕ). lease n x.length c state h d (expires_in s) (name_field_in form s)) (spell32 x.network) (spell32 x.client)
    ∙ ap₂ (λ (le : Bool) (e : ℕ). lease x.network x.length x.client le h d e (name_field_in form s)) (state-reads x.leased) (spell32 x.expires)
    ∙ ap₂ (λ (a b : Bool). lease x.network x.length x.client x.leased a b x.expires (name_field_in form s)) (h-reads x.h x.d) (d-reads x.h x.d)
    ∙ ap (λ (m : Name). lease x.network x.length x.client x.leased x.h x.d x.expires m) (name-reads-in form x q fits) in
    let range = state-range x.leased in
    let long : lease_size_in form ≤ length s = omega (arith, length-lease-in form x, length-append (lease_record_in form x) q) in
    cond-true (and (lease_tests_in form s)) (some (lease_fields_in form s)) none
    (and-list-of (lease_tests_in form s) (
      le-leb (lease_size_in form) (length s) long,
      (
        eq-eqb (number16 s 0) (lease_size_in form - 2) (spell16 (lease_size_in form - 2)),
        (
          eq-eqb (number16 s 2) (lease_kind form) (spell16 (lease_kind form)),
          (
            le-leb 1 (state_byte x.leased) range.0,
            (
              le-leb (state_byte x.leased) 2 range.1,
              (
                le-leb (flags_byte x.h x.d) 3 (flags-range x.h x.d),
                (name-passes form x q, (not-of (empty? (lease_fields_in form s)) (ap empty? same ∙ used), tt)),
              ),
            ),
          ),
        ),
      ),
    ))
    ∙ ap some same

pub lease-reads : (x : Lease) (q : List ℕ) → empty? x ≡ false → lease_at (lease_record x ++ q) ≡ some x
lease-reads x q used = lease-reads-in Second x q refl used

-- The bytes after a lease's end: its name, in the second form.
name-there : (form : Form) (s : List ℕ) → Bytes s → lease_size_in form ≤ length s → name_test form s ≡ true
    → drop name_length_at s ≡ name_record form (name_field_in form s) ++ drop (lease_size_in form) s
name-there First s b long e = refl
name-there Second s b long e =
    let r : List ℕ = drop name_at s in
    let size : longest_name ≤ length r = omega (arith, length-drop name_at s) in
    let octets : name_octets (name_in r) ≡ take longest_name r = name-written r size (bytes-all r (bytes_drop name_at s b)) in
    drop_at s name_length_at 0 (omega arith)
    ∙ ap₂ (λ (n : ℕ) (l : List ℕ). n ∷ l) (eqb-true (get_or s name_length_at 0) (name_length (name_in r)) e)
    (sym (take-append-drop longest_name r) ∙ ap₂ (λ (l m : List ℕ). l ++ m) (sym octets) (drop-drop longest_name name_at s))

pub lease-written-in : (form : Form) (s : List ℕ) (x : Lease) → Bytes s → lease_at_in form s ≡ some x
    → (s ≡ lease_record_in form x ++ drop (lease_size_in form) s) × ((empty? x ≡ false) × (name_fits form x.name ≡ true))
unfolding lease_at_in lease_record_in
lease-written-in form s x b e =
    let p = some_same (and (lease_tests_in form s)) (lease_fields_in form s) x e in
    let t = and-list-to (lease_tests_in form s) p.0 in
    let size : ℕ = lease_size_in form in
    let long : size ≤ length s = leb-true size (length s) t.0 in
    let len : le16 (size - 2) ≡ get_or s 0 0 ∷ get_or s 1 0 ∷ [] = ap le16 (sym (eqb-true (number16 s 0) (size - 2) t.1.0)) ∙ le16-number s b 0 in
    let kind : le16 (lease_kind form) ≡ get_or s 2 0 ∷ get_or s 3 0 ∷ [] = ap le16 (sym (eqb-true (number16 s 2) (lease_kind form) t.1.1.0)) ∙ le16-number s b 2 in
    let state : state_byte (eqb (state_byte_in s) 2) ≡ state_byte_in s = state-written (state_byte_in s) (leb-true 1 (state_byte_in s) t.1.1.1.0) (leb-true (state_byte_in s) 2 t.1.1.1.1.0) in
    let flags : flags_byte (eqb (flags_byte_in s % 2) 1) (eqb (flags_byte_in s / 2 % 2) 1) ≡ flags_byte_in s = flags-written (flags_byte_in s) (leb-true (flags_byte_in s) 3 t.1.1.1.1.1.0) in
    let same : lease_record_in form (lease_fields_in form s) ≡ spelled 0 name_length_at s ++ name_record form (name_field_in form s) =
    rw (len, kind, le32-number s b 4, le32-number s b 11, le32-number s b 15, state, flags) in
    let tail : drop name_length_at s ≡ name_record form (name_field_in form s) ++ drop size s = name-there form s b long t.1.1.1.1.1.1.0 in
    let named : name_field_in form s ≡ x.name = ap (λ (y : Lease). y.name) p.1 in (
      front-spelled name_length_at s (at_least form (length s) long)
          ∙ ap (λ (l : List ℕ). spelled 0 name_length_at s ++ l) tail
          ∙ ap (λ (l : List ℕ). l ++ drop size s) (sym same ∙ ap (lease_record_in form) p.1),
      (ap empty? (sym p.1) ∙ not-true (empty? (lease_fields_in form s)) t.1.1.1.1.1.1.1.0, ap (name_fits form) (sym named) ∙ fits form s),
    )
  where
    at_least : (f : Form) (n : ℕ) → lease_size_in f ≤ n → name_length_at ≤ n
    at_least First n h = omega arith
    at_least Second n h = omega arith

    fits : (f : Form) (r : List ℕ) → name_fits f (name_field_in f r) ≡ true
    fits First r = unnamed-of
    fits Second r = refl

-- No record of a lease is one of a pool.
not_third : (a b c : Bool) → (a && (b && (false && (c && true)))) ≡ false
not_third true true c = refl
not_third true false c = refl
not_third false b c = refl

pub no-pool : (form : Form) (xs : List Lease) → pool_at (concat_map (lease_record_in form) xs) ≡ none
unfolding pool_at lease_record_in le16 le32 number16
no-pool form [] = refl
no-pool First (x ∷ xs) =
    let s : List ℕ = concat_map (lease_record_in First) (x ∷ xs) in
    cond-false (and (pool_tests s)) (some (pool_in s)) none (not_third (leb pool_size (length s)) (eqb (number16 s 0) (pool_size - 2)) (not (unused? (pool_in s))))
no-pool Second (x ∷ xs) =
    let s : List ℕ = concat_map (lease_record_in Second) (x ∷ xs) in
    cond-false (and (pool_tests s)) (some (pool_in s)) none (not_third (leb pool_size (length s)) (eqb (number16 s 0) (pool_size - 2)) (not (unused? (pool_in s))))

no-lease : (form : Form) → lease_at_in form [] ≡ none
unfolding lease_at_in
no-lease First = refl
no-lease Second = refl

-- LOAD AND SAVE UNDO EACH OTHER

-- What is used of slots that are filled up.
pub used-pools : (k : ℕ) (ps : List Pool) → All (λ p. unused? p ≡ false) ps → filter (λ p. not (unused? p)) (ps ++ replicate k no_pool) ≡ ps
used-pools k ps a =
    let f : Pool → Bool = λ p. not (unused? p) in
    filter-append f ps (replicate k no_pool)
    ∙ ap₂ (λ (x y : List Pool). x ++ y) (filter-whole f ps (all_map (λ p (e : unused? p ≡ false). not-of (unused? p) e) ps a)) (filter-replicate f k no_pool (ap not unused-of))
    ∙ append-nil ps

pub used-leases : (k : ℕ) (xs : List Lease) → All (λ x. empty? x ≡ false) xs → filter (λ x. not (empty? x)) (xs ++ replicate k no_lease) ≡ xs
used-leases k xs a =
    let f : Lease → Bool = λ x. not (empty? x) in
    filter-append f xs (replicate k no_lease)
    ∙ ap₂ (λ (x y : List Lease). x ++ y) (filter-whole f xs (all_map (λ x (e : empty? x ≡ false). not-of (empty? x) e) xs a)) (filter-replicate f k no_lease (ap not empty_of))
    ∙ append-nil xs

pub used_all : {A : Type 0} (none? : A → Bool) (xs : List A) → All (λ x. none? x ≡ false) (filter (λ x. not (none? x)) xs)
used_all none? xs = all_map (λ x (e : not (none? x) ≡ true). not-true (none? x) e) (filter (λ x. not (none? x)) xs) (filter-pass (λ x. not (none? x)) xs)

-- A sound table is that of its head, its used pools and its used leases.
table-whole-for : (slots : ℕ) (t : LeaseTable) → sound_for slots t ≡ true → t ≡ table_for slots (head_of t) (used_pools t) (used_leases t)
table-whole-for slots t e =
    ap₂ (λ (p : List Pool) (l : List Lease). record { pools = p; leases = l; term = t.term; default_length = t.default_length; last = t.last })
    (pools-whole-for slots t e) (leases-whole-for slots t e)

pub table-whole : (t : LeaseTable) → sound t ≡ true → t ≡ table_with (head_of t) (used_pools t) (used_leases t)
table-whole t e = table-whole-for lease_slots t (sound-ours t ∙ e)

whole-some : (slots : ℕ) (t : LeaseTable) → sound_for slots t ≡ true → whole_for slots t [] ≡ some t
whole-some slots t e = rw e

-- What fits the form, of a table and of its used leases.
pub fits-used : (form : Form) (t : LeaseTable) → fits_form form t ≡ true → All (λ x. name_fits form x.name ≡ true) (used_leases t)
fits-used First t e = filter-all (λ x. not (empty? x)) (λ x. unnamed? x.name ≡ true) t.leases (all?-to (λ x. unnamed? x.name) (λ x f. f) t.leases e)
fits-used Second t e = all-every (λ x. refl) (used_leases t)

used-fits : (slots : ℕ) (form : Form) (x : Head) (ps : List Pool) (xs : List Lease) → All (λ y. name_fits form y.name ≡ true) xs → fits_form form (table_for slots x ps xs) ≡ true
used-fits slots First x ps xs a =
    all?-of (λ y. unnamed? y.name) (λ y e. e) (padded_to slots xs)
    (all_append (λ y. unnamed? y.name ≡ true) xs (replicate (slots - length xs) no_lease) a
    (all_replicate (λ y. unnamed? y.name ≡ true) (slots - length xs) no_lease unnamed-of))
used-fits slots Second x ps xs a = refl

-- Load as it is for our desk.
after-ours : (form : Form) (o : Option Head) (s : List ℕ) → after_head_for lease_slots form o s ≡ after_head_in form o s
unfolding sound_for sound
after-ours form none s = refl
after-ours form (some x) s = refl

pub load-ours : (form : Form) (s : List ℕ) → load_for lease_slots form s ≡ load_in form s
unfolding load_for load_in
load-ours form s = after-ours form (head_at_in form s) (drop head_size s)

-- "Load and save undo each other on sound books": what is saved loads as the same table.
pub load-image-for : (slots : ℕ) (form : Form) (t : LeaseTable) → sound_for slots t ≡ true → fits_form form t ≡ true → load_for slots form (image_as form t) ≡ some t
unfolding load_for image_as
load-image-for slots form t e fits =
    let ps : List Pool = used_pools t in
    let xs : List Lease = used_leases t in
    let tail : List ℕ = concat_map (lease_record_in form) xs in
    let body : List ℕ = concat_map pool_record ps ++ tail in
    let few : length ps ≤ pool_slots = omega (arith, filter-fewer (λ p. not (unused? p)) t.pools, pool-slots-for slots t e) in
    let fewer : length xs ≤ slots = omega (arith, filter-fewer (λ x. not (empty? x)) t.leases, slots-for slots t e) in
    let pools : pools_at body ≡ record { items = ps; rest = tail } =
    records-concat_map pool_at pool_size pool_record (λ p. unused? p ≡ false) (λ p q u. pool-reads p q u) pool-skips pool_slots ps tail (used_all unused? t.pools) few (no-pool form xs) in
    let each : All (λ x. (empty? x ≡ false) × (name_fits form x.name ≡ true)) xs =
    all-map₂ (λ x (u : empty? x ≡ false) (f : name_fits form x.name ≡ true). (u, f)) xs (used_all empty? t.leases) (fits-used form t fits) in
    let leases : leases_within slots form tail ≡ record { items = xs; rest = [] } =
    ap (leases_within slots form) (sym (append-nil tail))
    ∙ records-concat_map (lease_at_in form) (lease_size_in form) (lease_record_in form) (λ x. (empty? x ≡ false) × (name_fits form x.name ≡ true))
    (λ x q u. lease-reads-in form x q u.1 u.0) (lease-skips form) slots xs [] each fewer (no-lease form) in
    ap₂ (after_head_for slots form) (head-reads form (head_of t) body) (head-skips form (head_of t) body)
    ∙ ap (λ (r : Run Pool). whole_for slots (table_for slots (head_of t) r.items (leases_within slots form r.rest).items) (leases_within slots form r.rest).rest) pools
    ∙ ap (λ (r : Run Lease). whole_for slots (table_for slots (head_of t) ps r.items) r.rest) leases
    ∙ ap (λ (u : LeaseTable). whole_for slots u []) (sym (table-whole-for slots t e))
    ∙ whole-some slots t e

pub load-image-in : (form : Form) (t : LeaseTable) → sound t ≡ true → fits_form form t ≡ true → load_in form (image_as form t) ≡ some t
load-image-in form t e fits = sym (load-ours form (image_as form t)) ∙ load-image-for lease_slots form t (sound-ours t ∙ e) fits

pub load-image : (t : LeaseTable) → sound t ≡ true → load_image (image_of t) ≡ some t
load-image t e = load-image-in Second t e refl

length-zero : {A : Type 0} (xs : List A) → length xs ≡ 0 → xs ≡ []
length-zero [] e = refl
length-zero (x ∷ xs) e = absurd (omega arith)

-- What loads is sound, fits the form, and is saved as the same bytes.
pub image-loaded-for : (slots : ℕ) (form : Form) (s : List ℕ) (t : LeaseTable) → All (λ b. b < 256) s → load_for slots form s ≡ some t
    → (sound_for slots t ≡ true) × ((fits_form form t ≡ true) × (image_as form t ≡ s))
unfolding load_for image_as
image-loaded-for slots form s t a e = cases (head_at_in form s) refl e
  where
    cases : (o : Option Head) → head_at_in form s ≡ o → after_head_for slots form o (drop head_size s) ≡ some t → (sound_for slots t ≡ true) × ((fits_form form t ≡ true) × (image_as form t ≡ s))
    cases none h f = let z : ◌≡◌ {A = ℕ} 0 1 = cc in absurd (omega arith)
    cases (some x) h f =
        let body : List ℕ = drop head_size s in
        let body_bytes : All (λ b. b < 256) body = all_drop (λ b. b < 256) head_size s a in
        let ps : Run Pool = pools_at body in
        let r = readings pool_at pool_size pool_record (λ p. unused? p ≡ false) pool-written pool_slots body (bytes_of body body_bytes) in
        let rest_bytes : All (λ b. b < 256) ps.rest =
        all_right (λ b. b < 256) (concat_map pool_record ps.items) ps.rest (subst (All (λ b. b < 256)) r.same body_bytes) in
        let xs : Run Lease = leases_within slots form ps.rest in
        let rec : Lease → List ℕ = lease_record_in form in
        let q = readings (lease_at_in form) (lease_size_in form) rec (λ y. (empty? y ≡ false) × (name_fits form y.name ≡ true)) (lease-written-in form) slots ps.rest (bytes_of ps.rest rest_bytes) in
        let used : All (λ y. empty? y ≡ false) xs.items = all_map (λ y (b : (empty? y ≡ false) × (name_fits form y.name ≡ true)). b.0) xs.items q.each in
        let named : All (λ y. name_fits form y.name ≡ true) xs.items = all_map (λ y (b : (empty? y ≡ false) × (name_fits form y.name ≡ true)). b.1) xs.items q.each in
        let u : LeaseTable = table_for slots x ps.items xs.items in
        let w = some_same (and (eqb (length xs.rest) 0 ∷ sound_for slots u ∷ [])) u t f in
        let tests = and-list-to (eqb (length xs.rest) 0 ∷ sound_for slots u ∷ []) w.0 in
        let nothing : xs.rest ≡ [] = length-zero xs.rest (eqb-true (length xs.rest) 0 tests.0) in
        let tail : ps.rest ≡ concat_map rec xs.items = q.same ∙ ap (λ (l : List ℕ). concat_map rec xs.items ++ l) nothing ∙ append-nil (concat_map rec xs.items) in
        let bytes : s ≡ head_record_in form x ++ (concat_map pool_record ps.items ++ concat_map rec xs.items) =
        head-written form s x (bytes_of s a) h ∙ ap (λ (l : List ℕ). head_record_in form x ++ l) (r.same ∙ ap (λ (l : List ℕ). concat_map pool_record ps.items ++ l) tail) in
        let image : image_as form u ≡ s =
        ap₂ (λ (p : List Pool) (l : List Lease). head_record_in form x ++ (concat_map pool_record p ++ concat_map rec l))
        (used-pools (pool_slots - length ps.items) ps.items r.each) (used-leases (slots - length xs.items) xs.items used)
        ∙ sym bytes in
        (ap (sound_for slots) (sym w.1) ∙ tests.1.0, (ap (fits_form form) (sym w.1) ∙ used-fits slots form x ps.items xs.items named, ap (image_as form) (sym w.1) ∙ image))

pub image-loaded-in : (form : Form) (s : List ℕ) (t : LeaseTable) → All (λ b. b < 256) s → load_in form s ≡ some t
    → (sound t ≡ true) × ((fits_form form t ≡ true) × (image_as form t ≡ s))
image-loaded-in form s t a e = let r = image-loaded-for lease_slots form s t a (load-ours form s ∙ e) in (sym (sound-ours t) ∙ r.0, r.1)

pub image-loaded : (s : List ℕ) (t : LeaseTable) → All (λ b. b < 256) s → load_image s ≡ some t → (sound t ≡ true) × (image_of t ≡ s)
image-loaded s t a e = let r = image-loaded-in Second s t a e in (r.0, r.1.1)

-- Load accepts bytes in a form exactly if they are the image in it of a sound table that fits it, and gives that table.
pub loads⇔image-in : (form : Form) (s : List ℕ) (t : LeaseTable) → All (λ b. b < 256) s
    → (load_in form s ≡ some t) ↔ ((sound t ≡ true) × ((fits_form form t ≡ true) × (image_as form t ≡ s)))
loads⇔image-in form s t a = (image-loaded-in form s t a, λ p. ap (load_in form) (sym p.1.1) ∙ load-image-in form t p.0 p.1.0)

pub loads⇔image-for : (slots : ℕ) (form : Form) (s : List ℕ) (t : LeaseTable) → All (λ b. b < 256) s
    → (load_for slots form s ≡ some t) ↔ ((sound_for slots t ≡ true) × ((fits_form form t ≡ true) × (image_as form t ≡ s)))
loads⇔image-for slots form s t a = (image-loaded-for slots form s t a, λ p. ap (load_for slots form) (sym p.1.1) ∙ load-image-for slots form t p.0 p.1.0)

pub loads⇔image : (s : List ℕ) (t : LeaseTable) → All (λ b. b < 256) s → (load_image s ≡ some t) ↔ ((sound t ≡ true) × (image_of t ≡ s))
loads⇔image s t a = (image-loaded s t a, λ p. ap load_image (sym p.1) ∙ load-image t p.0)

some-injective : {A : Type 0} (x y : A) → some x ≡ some y → x ≡ y
some-injective x y e = cc

-- "one image per book now holds per form"
pub one-image-in : (form : Form) (t u : LeaseTable) → sound t ≡ true → sound u ≡ true → fits_form form t ≡ true → fits_form form u ≡ true
    → (image_as form t ≡ image_as form u) ↔ (t ≡ u)
one-image-in form t u a b p q = ((λ e. some-injective t u (sym (load-image-in form t a p) ∙ ap (load_in form) e ∙ load-image-in form u b q)), ap (image_as form))

pub one-image : (t u : LeaseTable) → sound t ≡ true → sound u ≡ true → (image_of t ≡ image_of u) ↔ (t ≡ u)
one-image t u a b = one-image-in Second t u a b refl refl

-- HOW LONG AN IMAGE IS

pub length-head-in : (form : Form) (x : Head) → length (head_record_in form x) ≡ head_size
unfolding head_record_in le16 le32
length-head-in form x = refl

pub length-head : (x : Head) → length (head_record x) ≡ head_size
length-head x = length-head-in Second x

pub length-pool : (p : Pool) → length (pool_record p) ≡ pool_size
unfolding pool_record le16 le32
length-pool p = refl

pub length-lease : (x : Lease) → length (lease_record x) ≡ lease_size
length-lease x = length-lease-in Second x

pub length-concat_map : {A : Type 0} (rec : A → List ℕ) (n : ℕ) → ((x : A) → length (rec x) ≡ n) → (xs : List A) → length (concat_map rec xs) ≡ n * length xs
length-concat_map rec n h xs = concat_map-laws.length-concat_map rec n xs (all-every h xs)

pub length-image-in : (form : Form) (t : LeaseTable) → length (image_as form t) ≡ head_size + pool_size * length (used_pools t) + lease_size_in form * length (used_leases t)
unfolding image_as
length-image-in form t =
    let rec : Lease → List ℕ = lease_record_in form in
    let pools = length-concat_map pool_record pool_size length-pool (used_pools t) in
    let leases = length-concat_map rec (lease_size_in form) (length-lease-in form) (used_leases t) in
    length-append (head_record_in form (head_of t)) (concat_map pool_record (used_pools t) ++ concat_map rec (used_leases t))
    ∙ omega (arith, length-head-in form (head_of t), length-append (concat_map pool_record (used_pools t)) (concat_map rec (used_leases t)))

pub length-image : (t : LeaseTable) → length (image_of t) ≡ head_size + pool_size * length (used_pools t) + lease_size * length (used_leases t)
length-image t = length-image-in Second t

-- "Full books are 19,541 bytes in the first form and 45,141 in the second" (`full-books`). No image of a sound table is longer.
pub full-image-in : (form : Form) (t : LeaseTable) → length (used_pools t) ≡ pool_slots → length (used_leases t) ≡ lease_slots → length (image_as form t) ≡ full_image_in form
full-image-in form t p l = length-image-in form t ∙ ap₂ (λ (m n : ℕ). head_size + pool_size * m + lease_size_in form * n) p l

pub full-image : (t : LeaseTable) → length (used_pools t) ≡ pool_slots → length (used_leases t) ≡ lease_slots → length (image_of t) ≡ full_image
full-image t p l = full-image-in Second t p l

-- The sizes as they are said.
pub full-books : (full_image_in First ≡ 19541) × (full_image_in Second ≡ 45141)
full-books = (refl, refl)

few-pools : (t : LeaseTable) → sound t ≡ true → length (used_pools t) ≤ pool_slots
few-pools t e = omega (arith, filter-fewer (λ p. not (unused? p)) t.pools, sound-pool-slots t e)

few-leases : (t : LeaseTable) → sound t ≡ true → length (used_leases t) ≤ lease_slots
few-leases t e = omega (arith, filter-fewer (λ x. not (empty? x)) t.leases, sound-slots t e)

pub longest-image-in : (form : Form) (t : LeaseTable) → sound t ≡ true → length (image_as form t) ≤ full_image_in form
longest-image-in First t e = omega (arith, length-image-in First t, few-pools t e, few-leases t e)
longest-image-in Second t e = omega (arith, length-image-in Second t, few-pools t e, few-leases t e)

pub longest-image : (t : LeaseTable) → sound t ≡ true → length (image_of t) ≤ full_image
longest-image t e = longest-image-in Second t e

-- A record that is read is there whole.
pub pool-long : (s : List ℕ) (p : Pool) → pool_at s ≡ some p → pool_size ≤ length s
unfolding pool_at
pool-long s p e = leb-true pool_size (length s) (and-list-to (pool_tests s) (some_same (and (pool_tests s)) (pool_in s) p e).0).0

pub lease-long-in : (form : Form) (s : List ℕ) (x : Lease) → lease_at_in form s ≡ some x → lease_size_in form ≤ length s
unfolding lease_at_in
lease-long-in form s x e =
    leb-true (lease_size_in form) (length s) (and-list-to (lease_tests_in form s) (some_same (and (lease_tests_in form s)) (lease_fields_in form s) x e).0).0

-- WHAT LOAD READS AFTER THE HEAD

module _ (form : Form) (s : List ℕ) where
  pub load-no-head : and (head_tests_in form s) ≡ false → load_in form s ≡ none
  unfolding load_in head_at_in
  load-no-head e = rw e

  module _ (e : and (head_tests_in form s) ≡ true) where
    pub load-head : load_in form s ≡ after_head_in form (some (head_in s)) (drop head_size s)
    unfolding load_in head_at_in
    load-head = rw e

    pub head-long : head_size ≤ length s
    head-long = leb-true head_size (length s) (and-list-to (head_tests_in form s) e).0
