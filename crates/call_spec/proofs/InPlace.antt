-- Laws of storing a table in place: of the image in the buffer only the leases and the last time are written anew.
-- Assumes nothing.
use Prim.Native.Nat.{ℕ, ◌+◌, ◌-◌, ◌*◌, ◌≤◌}
use mathlib.Core.Path.{◌≡◌, refl, sym, ap, ap₂, ◌∙◌}
use mathlib.Core.Bool.{Bool, true, false, not}
use mathlib.Core.List.{List, [], ◌∷◌, ◌++◌, append_assoc, append-nil}
use native.Mathlib.Omega.{arith}
use lib.ListN.{length, take, drop, replicate, length-append, length-replicate, take-append-drop}
use lib.Seq.{take_at}
use Rattle.lists.specs.Lists.{All, concat_map}
use Rattle.lists.specs.Put.{put}
use Rattle.lists.proofs.Tests.{not-of}
use Rattle.lists.proofs.ListLaws.{all_map}
use Rattle.lists.proofs.FilterLaws.{filter-append, filter-whole, filter-replicate}
use Rattle.lists.proofs.PutLaws.{put-fits}
use Rattle.table.specs.declared.Lease.{Lease}
use Rattle.table.specs.declared.LeaseTable.{LeaseTable}
use Rattle.table.specs.Table.{lease_slots, no_lease, empty?, sound, store}
use Rattle.table.proofs.TableLaws.{empty_of}
use Rattle.image.specs.Image.{le16, le32, head_size, pool_size, lease_size, full_image, head_record_in, head_record, pool_record, lease_record, used_pools, used_leases, head_of, image_as, image_of}
use Rattle.image.specs.Reading.{last_at}
use Rattle.image.proofs.ImageLaws.{length-head, length-pool, length-concat_map, length-image}
use Rattle.image_records.proofs.PutForms.{put-inside}
use Rattle.image_records.proofs.RecordLaws.{length-leases}
use Rattle.image_records.proofs.SoundLaws.{used-few}
use Rattle.call_spec.specs.ImageCalls.{over, stored}

-- The leases that are stored are those that are used.
module _ (t : LeaseTable) (now : ℕ) (zs : List Lease) (a : All (λ x. empty? x ≡ false) zs) where
  stored-leases : used_leases (store t now zs) ≡ zs
  unfolding store
  stored-leases =
      let f : Lease → Bool = λ x. not (empty? x) in
      let k : ℕ = lease_slots - length zs in
      filter-append f zs (replicate k no_lease)
      ∙ ap₂ (λ (x y : List Lease). x ++ y) (filter-whole f zs (all_map (λ x (e : empty? x ≡ false). not-of (empty? x) e) zs a)) (filter-replicate f k no_lease (ap not empty_of))
      ∙ append-nil zs

  pub length-stored : length (image_of (store t now zs)) ≡ head_size + pool_size * length (used_pools t) + lease_size * length zs
  unfolding store
  length-stored = length-image (store t now zs) ∙ ap (λ (xs : List Lease). head_size + pool_size * length (used_pools t) + lease_size * length xs) stored-leases

  -- Its image, spelled out.
  spelled : image_of (store t now zs) ≡ head_record (head_of (store t now zs)) ++ (concat_map pool_record (used_pools t) ++ concat_map lease_record zs)
  unfolding image_as store
  spelled = ap (λ (xs : List Lease). head_record (head_of (store t now zs)) ++ (concat_map pool_record (used_pools t) ++ concat_map lease_record xs)) stored-leases

-- A head with another last time.
head-last : (t : LeaseTable) (now : ℕ) (zs : List Lease) (rest : List ℕ) → put (head_record (head_of t) ++ rest) last_at (le32 now) ≡ head_record (head_of (store t now zs)) ++ rest
unfolding head_record_in store le16 le32
head-last t now zs rest =
    put-inside last_at (le32 now) (le16 (head_size - 2) ++ le16 5 ++ le32 t.term ++ (t.default_length ∷ [])) (le32 t.last) rest refl refl

module _ (t : LeaseTable) (s : sound t ≡ true) (buffer : List ℕ) (bytes : ℕ) (held : image_of t ≡ take bytes buffer) (within : bytes ≤ length buffer) (room : full_image ≤ length buffer) where
  -- What stands before the leases.
  front : take (head_size + pool_size * length (used_pools t)) buffer ≡ head_record (head_of t) ++ concat_map pool_record (used_pools t)
  unfolding image_as
  front =
      let h : List ℕ = head_record (head_of t) in
      let ps : List ℕ = concat_map pool_record (used_pools t) in
      let xs : List ℕ = concat_map lease_record (used_leases t) in
      let from : ℕ = head_size + pool_size * length (used_pools t) in
      let size : length (h ++ ps) ≡ from = length-append h ps ∙ omega (arith, length-head (head_of t), length-concat_map pool_record pool_size length-pool (used_pools t)) in
      let here : buffer ≡ (h ++ ps) ++ (xs ++ drop bytes buffer) =
      sym (take-append-drop bytes buffer)
      ∙ ap (λ (l : List ℕ). l ++ drop bytes buffer) (sym held ∙ sym (append_assoc h ps xs))
      ∙ append_assoc (h ++ ps) xs (drop bytes buffer) in
      ap (take from) here ∙ take_at (h ++ ps) (xs ++ drop bytes buffer) from size

  pub stored-in-place : (now : ℕ) (zs : List Lease) → length zs ≤ lease_slots → All (λ x. empty? x ≡ false) zs
      → stored (store t now zs) bytes buffer
      ≡ put (put buffer (head_size + pool_size * length (used_pools t)) (concat_map lease_record zs ++ replicate (bytes - (head_size + pool_size * length (used_pools t) + lease_size * length zs)) 0)) last_at (le32 now)
  unfolding stored image_as
  stored-in-place now zs few a =
      let u : LeaseTable = store t now zs in
      let from : ℕ = head_size + pool_size * length (used_pools t) in
      let h : List ℕ = head_record (head_of t) in
      let h₁ : List ℕ = head_record (head_of u) in
      let ps : List ℕ = concat_map pool_record (used_pools t) in
      let xs : List ℕ = concat_map lease_record zs in
      let zeros : List ℕ = replicate (bytes - (from + lease_size * length zs)) 0 in
      let tail : List ℕ = drop (from + length (xs ++ zeros)) buffer in
      let count : length zeros ≡ bytes - (from + lease_size * length zs) = length-replicate (bytes - (from + lease_size * length zs)) 0 in
      let new : length (xs ++ zeros) ≡ lease_size * length zs + (bytes - (from + lease_size * length zs)) = length-append xs zeros ∙ omega (arith, length-leases zs, count) in
      let fits : from + length (xs ++ zeros) ≤ length buffer = omega (arith, new, (used-few t s).0) in
      let size : length (image_of u) ≡ from + lease_size * length zs = length-stored t now zs a in
      let image : image_of u ≡ h₁ ++ (ps ++ xs) = spelled t now zs a in
      let all : over (image_of u) bytes ≡ h₁ ++ (ps ++ (xs ++ zeros)) =
      ap₂ (λ (l : List ℕ) (k : ℕ). l ++ replicate (bytes - k) 0) image size
      ∙ append_assoc h₁ (ps ++ xs) zeros ∙ ap (λ (l : List ℕ). h₁ ++ l) (append_assoc ps xs zeros) in
      let long : length (over (image_of u) bytes) ≡ from + length (xs ++ zeros) =
      length-append (image_of u) (replicate (bytes - length (image_of u)) 0) ∙ omega (arith, size, new, length-replicate {A = ℕ} (bytes - length (image_of u)) 0) in
      ap₂ (λ (l : List ℕ) (k : ℕ). l ++ drop k buffer) all long
      ∙ append_assoc h₁ (ps ++ (xs ++ zeros)) tail
      ∙ ap (λ (l : List ℕ). h₁ ++ l) (append_assoc ps (xs ++ zeros) tail)
      ∙ sym (head-last t now zs (ps ++ ((xs ++ zeros) ++ tail)))
      ∙ ap (λ (l : List ℕ). put l last_at (le32 now))
      (sym (put-fits (xs ++ zeros) buffer from fits
      ∙ ap (λ (l : List ℕ). l ++ (xs ++ zeros) ++ tail) front
      ∙ append_assoc (h ++ ps) (xs ++ zeros) tail
      ∙ append_assoc h ps ((xs ++ zeros) ++ tail)))
