-- Leases and pools in place: one after another, and those of the table whose image it is.
-- Assumes nothing.
use Prim.Native.Nat.{ℕ, zero, suc, ◌+◌, ◌-◌, ◌*◌, ◌≤◌, ◌<◌}
use mathlib.Core.Path.{◌≡◌, sym, ap, ap₂, subst, ◌∙◌}
use mathlib.Core.List.{List, [], ◌∷◌, map}
use native.Mathlib.Omega.{arith}
use lib.ListN.{length, take, drop, get_or, length-append, take-append-drop}
use Rattle.lists.proofs.DropLaws.{drop_at, drop-end, all-at}
use Rattle.prefix.specs.declared.Prefix.{Prefix}
use Rattle.table.specs.declared.Pool.{Pool}
use Rattle.table.specs.declared.Lease.{Lease}
use Rattle.table.specs.declared.LeaseTable.{LeaseTable}
use Rattle.table.specs.Table.{pool_slots, lease_slots, no_pool, no_lease, prefix_of, pool_prefix, prefixes_of, pools_of, present}
use Rattle.table.proofs.TableLaws.{Good, Fine, sound-used, sound-fine}
use Rattle.image.specs.Image.{head_size, pool_size, lease_size, used_pools, used_leases, image_of}
use Rattle.image.specs.Reading.{lease_in}
use Rattle.image.proofs.ImageLaws.{length-image}
use Rattle.image_check.specs.Inner.{nth_pool}
use Rattle.image_records.proofs.PoolRecords.{image-pools}
use Rattle.image_records.proofs.RecordLaws.{lease-in-place}
use Rattle.image_records.proofs.SoundLaws.{used-few, image-records}
use Rattle.counts.specs.InnerLevels.{Laid}
use Rattle.counts.proofs.LevelRows.{sound-laid}
use Rattle.image_counts.specs.Standing.{Stands}
use Rattle.image_counts.specs.InnerTally.{lease_at, leases_at, ahead, pools_at, Short}

-- ONE AFTER ANOTHER

module _ (image : List ℕ) (from n i : ℕ) where
  pub ahead-first : i < n → ahead image from n i ≡ lease_at image from i ∷ ahead image from n (i + 1)
  unfolding leases_at
  ahead-first h =
      let more : n - i ≡ suc (n - (i + 1)) = omega arith in
      let next : suc i ≡ i + 1 = omega arith in
      ap (leases_at image from i) more ∙ ap (λ (m : ℕ). lease_at image from i ∷ leases_at image from m (n - (i + 1))) next

  pub ahead_none : n ≤ i → ahead image from n i ≡ []
  unfolding leases_at
  ahead_none h = let none : n - i ≡ 0 = omega arith in ap (leases_at image from i) none

module _ (image : List ℕ) (n k : ℕ) where
  pub pools-first : k < n → pools_at image k (n - k) ≡ nth_pool (drop head_size image) k ∷ pools_at image (k + 1) (n - (k + 1))
  unfolding pools_at
  pools-first h =
      let more : n - k ≡ suc (n - (k + 1)) = omega arith in
      let next : suc k ≡ k + 1 = omega arith in
      ap (pools_at image k) more ∙ ap (λ (m : ℕ). nth_pool (drop head_size image) k ∷ pools_at image m (n - (k + 1))) next

  pub pools-none : n ≤ k → pools_at image k (n - k) ≡ []
  unfolding pools_at
  pools-none h = let none : n - k ≡ 0 = omega arith in ap (pools_at image k) none

-- OF A TABLE

leases-read : (image : List ℕ) (from i k : ℕ) (xs : List Lease) → i + k ≡ length xs → ((j : ℕ) → j < length xs → lease_in (drop (from + lease_size * j) image) ≡ get_or xs j no_lease)
    → leases_at image from i k ≡ map prefix_of (drop i xs)
unfolding leases_at
leases-read image from i zero xs e at = sym (ap (map prefix_of) (drop-end xs i (omega arith)))
leases-read image from i (suc k) xs e at =
    let next : suc i ≡ i + 1 = omega arith in
    ap₂ (λ (p : Prefix) (ps : List Prefix). p ∷ ps) (ap prefix_of (at i (omega arith))) (leases-read image from (suc i) k xs (omega arith) at ∙ ap (λ (m : ℕ). map prefix_of (drop m xs)) next)
    ∙ sym (ap (map prefix_of) (drop_at xs i no_lease (omega arith)))

pools-read : (image : List ℕ) (i k : ℕ) (ps : List Pool) → i + k ≡ length ps → ((j : ℕ) → j < length ps → nth_pool (drop head_size image) j ≡ pool_prefix (get_or ps j no_pool))
    → pools_at image i k ≡ map pool_prefix (drop i ps)
unfolding pools_at
pools-read image i zero ps e at = sym (ap (map pool_prefix) (drop-end ps i (omega arith)))
pools-read image i (suc k) ps e at =
    let next : suc i ≡ i + 1 = omega arith in
    ap₂ (λ (q : Prefix) (qs : List Prefix). q ∷ qs) (at i (omega arith)) (pools-read image (suc i) k ps (omega arith) at ∙ ap (λ (m : ℕ). map pool_prefix (drop m ps)) next)
    ∙ sym (ap (map pool_prefix) (drop_at ps i no_pool (omega arith)))

module _ (t : LeaseTable) (image : List ℕ) (pools leases : ℕ) (s : Stands t image pools leases) where
  abbrev from : ℕ
  from = head_size + pool_size * pools

  few-pools : pools ≤ pool_slots
  few-pools = omega (arith, s.pools-are, (used-few t s.sound-table).0)

  few-leases : leases ≤ lease_slots
  few-leases = omega (arith, s.leases-are, (used-few t s.sound-table).1)

  room : head_size + pool_size * pools + lease_size * leases ≤ length image
  room =
      omega (
        arith,
        s.pools-are,
        s.leases-are,
        length-image t,
        ap length s.image-is,
        ap length (take-append-drop (length (image_of t)) image),
        length-append (take (length (image_of t)) image) (drop (length (image_of t)) image),
      )

  lease-at : (i : ℕ) → i < length (used_leases t) → lease_in (drop (from + lease_size * i) image) ≡ get_or (used_leases t) i no_lease
  lease-at i h =
      subst (λ (n : ℕ). lease_in (drop (head_size + pool_size * n + lease_size * i) image) ≡ get_or (used_leases t) i no_lease) (sym s.pools-are)
      (lease-in-place image (head_size + pool_size * length (used_pools t)) (used_leases t) (image-records t image (length (image_of t)) s.image-is) i h)

  -- The leases and pools in place are those of the table.
  pub leases-of : ahead image from leases 0 ≡ map prefix_of (present t.last t.leases)
  leases-of =
      leases-read image from 0 (leases - 0) (used_leases t) (omega (arith, s.leases-are)) lease-at
      ∙ ap (map prefix_of) (sound-used t s.sound-table)

  pub pools-of : pools_at image 0 (pools - 0) ≡ pools_of t
  unfolding prefixes_of
  pools-of =
      pools-read image 0 (pools - 0) (used_pools t) (omega (arith, s.pools-are)) (λ j h. ap pool_prefix (image-pools t image (length (image_of t)) s.image-is j h))

  short : Short image from leases
  short i h =
      let lt : i < length (used_leases t) = omega (arith, s.leases-are) in
      let fine : Fine (pools_of t) t.last 0 (used_leases t) = subst (Fine (pools_of t) t.last 0) (sym (sound-used t s.sound-table)) (sound-fine t s.sound-table t.last) in
      let good : Good (pools_of t) t.last (get_or (used_leases t) i no_lease) = all-at (Good (pools_of t) t.last) (used_leases t) fine.0 i no_lease lt in
      omega (arith, good.long, ap (λ (x : Lease). x.length) (lease-at i lt))

  -- What the pass needs.
  pub record Facts : Type 0 where
    pub few-pools : pools ≤ pool_slots
    pub few-leases : leases ≤ lease_slots
    pub room : head_size + pool_size * pools + lease_size * leases ≤ length image
    pub short : Short image from leases
    pub laid : Laid 0 (pools_at image 0 (pools - 0)) (ahead image from leases 0)

  pub facts : Facts
  facts = record {
    few-pools = few-pools;
    few-leases = few-leases;
    room = room;
    short = short;
    laid = subst (λ (ps : List Prefix). Laid 0 ps (ahead image from leases 0)) (sym pools-of) (subst (Laid 0 (pools_of t)) (sym leases-of) (sound-laid t s.sound-table));
  }
