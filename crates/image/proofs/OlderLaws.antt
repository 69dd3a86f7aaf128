-- What an older desk reads: "Older desks read only 256 lines". It is stated of a desk with any number of lease slots.
-- Assumes nothing.
use Prim.Native.Nat.{ℕ, zero, suc, ◌-◌, ◌*◌, ◌≤◌, ◌<◌}
use mathlib.Core.Path.{◌≡◌, refl, sym, ap, ap₂, ◌∙◌}
use mathlib.Core.Bool.{Bool, true, false, not, true≢false}
use mathlib.Core.List.{List, [], ◌∷◌, ◌++◌, append_assoc}
use mathlib.Core.Option.{Option, none, some}
use native.Mathlib.Omega.{arith}
use lib.ListN.{length, take, drop, length-drop, take-append-drop}
use lib.Seq.{length-take-le}
use lib.Dec.{eqb}
use borrow.Author.Tests.{ne_eqb}
use Rattle.lists.specs.Lists.{All, and, filter, concat_map}
use Rattle.lists.proofs.Tests.{cond-false, all?-to, all?-of}
use Rattle.lists.proofs.ListLaws.{all-map₂}
use Rattle.lists.proofs.FilterLaws.{filter-fewer}
use Rattle.lists.proofs.ConcatMapLaws.{concat_map-append}
use Rattle.names.specs.Names.{unnamed?}
use Rattle.table.specs.declared.Pool.{Pool}
use Rattle.table.specs.declared.Lease.{Lease}
use Rattle.table.specs.declared.LeaseTable.{LeaseTable}
use Rattle.table.specs.Table.{pool_slots, lease_slots, unused?, empty?, sound_for, sound, cut}
use Rattle.table.proofs.TableLaws.{sound-pool-slots}
use Rattle.table.proofs.OlderLaws.{cut-leases, cut-sound}
use Rattle.image.specs.declared.Form.{Form}
use Rattle.image.specs.declared.Form.TheVariants.{First, Second}
use Rattle.image.specs.Image.{pool_size, lease_size_in, head_record_in, pool_record, lease_record_in, used_pools, used_leases, head_of, image_as, fits_form}
use Rattle.image.specs.Fields.{Run, before, records}
use Rattle.image.specs.Reading.{pool_at, pools_at, lease_at_in, leases_within, table_for, whole_for, after_head_for, load_for, load_saved_for}
use Rattle.image.proofs.FieldLaws.{records-some, records-concat_map}
use Rattle.image.proofs.ImageLaws.{name_fits, head-reads, head-skips, pool-reads, pool-skips, lease-reads-in, lease-skips, no-pool, fits-used, used-leases, used_all, load-image-for, length-concat_map, length-lease-in}
use Rattle.image.proofs.FormLaws.{form-of-image}

all_take : {A : Type 0} (P : A → Type 0) (n : ℕ) (xs : List A) → All P xs → All P (take n xs)
all_take P zero xs a = tt
all_take P (suc n) [] a = tt
all_take P (suc n) (x ∷ xs) a = (a.0, all_take P n xs a.1)

-- A form that a table fits, it fits with fewer slots.
cut_fits : (slots : ℕ) (form : Form) (t : LeaseTable) → fits_form form t ≡ true → fits_form form (cut slots t) ≡ true
cut_fits slots First t e =
    all?-of (λ x. unnamed? x.name) (λ x f. f) (take slots t.leases)
    (all_take (λ x. unnamed? x.name ≡ true) slots t.leases (all?-to (λ x. unnamed? x.name) (λ x f. f) t.leases e))
cut_fits slots Second t e = refl

module _ (slots : ℕ) (t : LeaseTable) (e : sound t ≡ true) (few : length (used_leases t) ≤ slots) (most : slots ≤ lease_slots) where
  -- The same leases,
  pub cut-used : used_leases (cut slots t) ≡ used_leases t
  cut-used =
      ap (filter (λ x. not (empty? x))) (cut-leases slots t e few most)
      ∙ used-leases (slots - length (used_leases t)) (used_leases t) (used_all empty? t.leases)

  -- and so the same bytes.
  pub cut-image : (form : Form) → image_as form (cut slots t) ≡ image_as form t
  unfolding image_as
  cut-image form = ap (λ (xs : List Lease). head_record_in form (head_of t) ++ (concat_map pool_record (used_pools t) ++ concat_map (lease_record_in form) xs)) cut-used

  -- A desk with so many lease slots loads what ours saves, if no more leases are used: head, pools and leases are the same.
  pub older-loads : (form : Form) → fits_form form t ≡ true → load_for slots form (image_as form t) ≡ some (cut slots t)
  older-loads form fits =
      ap (load_for slots form) (sym (cut-image form)) ∙ load-image-for slots form (cut slots t) (cut-sound slots t e few most) (cut_fits slots form t fits)

  pub older-loads-saved : (form : Form) → fits_form form t ≡ true → load_saved_for slots (image_as form t) ≡ some (cut slots t)
  older-loads-saved form fits = ap (λ (f : Form). load_for slots f (image_as form t)) (form-of-image form t) ∙ older-loads form fits

-- With more leases it loads nothing of it: what is left after the last slot is no part of a table.
module _ {A : Type 0} (read : List ℕ → Option A) (size : ℕ) (rec : A → List ℕ) (P : A → Type 0) (reads : (x : A) (q : List ℕ) → P x → read (rec x ++ q) ≡ some x) (skips : (x : A) (q : List ℕ) → drop size (rec x ++ q) ≡ q) where
  records-full : (limit : ℕ) (xs : List A) (q : List ℕ) → All P xs → length xs ≡ limit → records read size limit (concat_map rec xs ++ q) ≡ record { items = xs; rest = q }
  unfolding records
  records-full zero [] q a h = refl
  records-full zero (x ∷ xs) q a h = absurd (omega arith)
  records-full (suc limit) [] q a h = absurd (omega arith)
  records-full (suc limit) (x ∷ xs) q a h =
      let rest : List ℕ = concat_map rec xs ++ q in
      ap (records read size (suc limit)) (append_assoc (rec x) (concat_map rec xs) q)
      ∙ records-some read size limit (rec x ++ rest) x (reads x rest a.0)
      ∙ ap (λ (l : List ℕ). before x (records read size limit l)) (skips x rest)
      ∙ ap (before x) (records-full limit xs q a.1 (omega arith))

module _ (slots : ℕ) (t : LeaseTable) (e : sound t ≡ true) (many : slots < length (used_leases t)) where
  pub older-refuses : (form : Form) → fits_form form t ≡ true → load_for slots form (image_as form t) ≡ none
  unfolding load_for image_as
  older-refuses form fits =
      let ps : List Pool = used_pools t in
      let xs : List Lease = used_leases t in
      let rec : Lease → List ℕ = lease_record_in form in
      let tail : List ℕ = concat_map rec xs in
      let body : List ℕ = concat_map pool_record ps ++ tail in
      let front : List Lease = take slots xs in
      let back : List Lease = drop slots xs in
      let few : length ps ≤ pool_slots = omega (arith, filter-fewer (λ p. not (unused? p)) t.pools, sound-pool-slots t e) in
      let pools : pools_at body ≡ record { items = ps; rest = tail } =
      records-concat_map pool_at pool_size pool_record (λ p. unused? p ≡ false) (λ p q u. pool-reads p q u) pool-skips pool_slots ps tail (used_all unused? t.pools) few (no-pool form xs) in
      let each : All (λ x. (empty? x ≡ false) × (name_fits form x.name ≡ true)) xs =
      all-map₂ (λ x (u : empty? x ≡ false) (f : name_fits form x.name ≡ true). (u, f)) xs (used_all empty? t.leases) (fits-used form t fits) in
      let parts : tail ≡ concat_map rec front ++ concat_map rec back = ap (concat_map rec) (sym (take-append-drop slots xs)) ∙ concat_map-append rec front back in
      let leases : leases_within slots form tail ≡ record { items = front; rest = concat_map rec back } =
      ap (leases_within slots form) parts
      ∙ records-full (lease_at_in form) (lease_size_in form) rec (λ x. (empty? x ≡ false) × (name_fits form x.name ≡ true)) (λ x q u. lease-reads-in form x q u.1 u.0) (lease-skips form)
      slots front (concat_map rec back) (all_take _ slots xs each) (length-take-le slots xs (omega arith)) in
      ap₂ (after_head_for slots form) (head-reads form (head_of t) body) (head-skips form (head_of t) body)
      ∙ ap (λ (r : Run Pool). whole_for slots (table_for slots (head_of t) r.items (leases_within slots form r.rest).items) (leases_within slots form r.rest).rest) pools
      ∙ ap (λ (r : Run Lease). whole_for slots (table_for slots (head_of t) ps r.items) r.rest) leases
      ∙ left_over slots (table_for slots (head_of t) ps front) (concat_map rec back) (positive form back (length-concat_map rec (lease_size_in form) (length-lease-in form) back) (omega (arith, length-drop slots xs)))
    where
      first-false : (a b : Bool) → a ≡ false → and (a ∷ b ∷ []) ≡ false
      first-false true b h = absurd (true≢false h)
      first-false false b h = refl

      left_over : (n : ℕ) (u : LeaseTable) (rest : List ℕ) → 0 < length rest → whole_for n u rest ≡ none
      left_over n u rest h = cond-false (and (eqb (length rest) 0 ∷ sound_for n u ∷ [])) (some u) none (first-false (eqb (length rest) 0) (sound_for n u) (ne_eqb (length rest) 0 (λ z. absurd (omega arith))))

      positive : (f : Form) (ys : List Lease) → length (concat_map (lease_record_in f) ys) ≡ lease_size_in f * length ys → 0 < length ys → 0 < length (concat_map (lease_record_in f) ys)
      positive First ys l h = omega arith
      positive Second ys l h = omega arith
