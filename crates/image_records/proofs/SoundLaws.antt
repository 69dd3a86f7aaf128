-- Laws of the leases of a table, as its image holds them: they stand as records and ascend, and what keeps them ascending.
-- Assumes nothing.
use Prim.Native.Nat.{ℕ, ◌+◌, ◌-◌, ◌*◌, ◌≤◌, ◌<◌}
use native.Mathlib.Omega.{arith}
use mathlib.Core.Path.{◌≡◌, sym, ap, subst, ◌∙◌}
use mathlib.Core.Logic.{⊎_elim}
use mathlib.Core.Bool.{Bool, true, false, not}
use mathlib.Core.List.{List, [], ◌∷◌, ◌++◌, append_assoc}
use lib.ListN.{length, take, drop, length-append, take-append-drop}
use lib.Seq.{drop_at}
use Rattle.lists.specs.Lists.{filter, concat_map}
use Rattle.lists.proofs.Tests.{bool_cases}
use Rattle.lists.proofs.ListLaws.{all_map}
use Rattle.lists.proofs.FilterLaws.{filter-yes, filter-no, filter-all, filter-fewer}
use Rattle.prefix.proofs.PrefixLaws.{size-positive}
use Rattle.table.specs.declared.Lease.{Lease}
use Rattle.table.specs.declared.LeaseTable.{LeaseTable}
use Rattle.table.specs.Table.{pool_slots, lease_slots, unused?, empty?, prefix_of, present, sound}
use Rattle.table.proofs.Ascending.{ascending-low}
use Rattle.table.proofs.Ascending as table
use Rattle.table.proofs.TableLaws.{sound-used, sound-fine, sound-slots, sound-pool-slots, present-padded, present?}
use Rattle.prefix.specs.Prefixes.{end}
use Rattle.image.specs.Image.{head_size, pool_size, lease_size, head_record, pool_record, lease_record, used_pools, used_leases, head_of, image_as, image_of}
use Rattle.image.proofs.ImageLaws.{length-head, length-pool, length-concat_map, table-whole}
use Rattle.image_records.specs.Records.{Records, Ascending}
use Rattle.image_records.proofs.RecordLaws.{length-leases}

-- ASCENDING

-- Prefixes that ascend without overlap do so by network.
pub ascending-prefixes : (from : ℕ) (xs : List Lease) → table.Ascending prefix_of from xs → Ascending xs
unfolding Ascending
ascending-prefixes from [] s = tt
ascending-prefixes from (x ∷ xs) s = (
  all_map (λ y h. omega (arith, size-positive x.length)) xs (ascending-low prefix_of _ xs s.1),
  ascending-prefixes (end (prefix_of x)) xs s.1,
)

module _ (f : Lease → Bool) where
  pub ascending-filter : (xs : List Lease) → Ascending xs → Ascending (filter f xs)
  unfolding Ascending
  ascending-filter [] a = tt
  ascending-filter (x ∷ xs) a =
      ⊎_elim
      (λ (e : f x ≡ true).
      subst Ascending (sym (filter-yes f x xs e)) (filter-all f (λ y. x.network < y.network) xs a.0, ascending-filter xs a.1))
      (λ (e : f x ≡ false). subst Ascending (sym (filter-no f x xs e)) (ascending-filter xs a.1))
      (bool_cases (f x))

pub ascending-present : (time : ℕ) (xs : List Lease) → Ascending xs → Ascending (present time xs)
unfolding present
ascending-present time xs a = ascending-filter (present? time) xs a

-- THE LEASES OF A TABLE

module _ (t : LeaseTable) (e : sound t ≡ true) where
  pub sound-ascending : Ascending (used_leases t)
  sound-ascending = subst Ascending (sym (sound-used t e)) (ascending-prefixes 0 (present t.last t.leases) (sound-fine t e t.last).1)

  -- Empty slots are not present.
  pub present-used : (time : ℕ) → present time t.leases ≡ present time (used_leases t)
  present-used time =
      ap (λ (u : LeaseTable). present time u.leases) (table-whole t e) ∙ present-padded time (lease_slots - length (used_leases t)) (used_leases t)

  pub used-few : (length (used_pools t) ≤ pool_slots) × (length (used_leases t) ≤ lease_slots)
  used-few = (
    omega (arith, filter-fewer (λ p. not (unused? p)) t.pools, sound-pool-slots t e),
    omega (arith, filter-fewer (λ x. not (empty? x)) t.leases, sound-slots t e),
  )

-- A buffer that an image is the front of holds the leases as records.
module _ (t : LeaseTable) (l : List ℕ) (bytes : ℕ) (e : image_of t ≡ take bytes l) where
  pub image-records : Records l (head_size + pool_size * length (used_pools t)) (used_leases t)
  unfolding Records image_as
  image-records =
      let head : List ℕ = head_record (head_of t) in
      let pools : List ℕ = concat_map pool_record (used_pools t) in
      let leases : List ℕ = concat_map lease_record (used_leases t) in
      let from : ℕ = head_size + pool_size * length (used_pools t) in
      let rest : List ℕ = drop bytes l in
      let front : length (head ++ pools) ≡ from =
      length-append head pools ∙ omega (arith, length-head (head_of t), length-concat_map pool_record pool_size length-pool (used_pools t)) in
      let here : l ≡ (head ++ pools) ++ (leases ++ rest) =
      sym (take-append-drop bytes l)
      ∙ ap (λ (s : List ℕ). s ++ rest) (sym e ∙ sym (append_assoc head pools leases))
      ∙ append_assoc (head ++ pools) leases rest in
      let after : length ((head ++ pools) ++ leases) ≡ from + lease_size * length (used_leases t) =
      length-append (head ++ pools) leases ∙ omega (arith, length-leases (used_leases t)) in
      ap (drop from) here
      ∙ drop_at (head ++ pools) (leases ++ rest) from front
      ∙ ap (λ (s : List ℕ). leases ++ s)
      (sym (ap (drop (from + lease_size * length (used_leases t))) (here ∙ sym (append_assoc (head ++ pools) leases rest)) ∙ drop_at ((head ++ pools) ++ leases) rest (from + lease_size * length (used_leases t)) after))
