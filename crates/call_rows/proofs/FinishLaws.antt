-- Laws of what an accepted call leaves: the image of the table that the ledger stores, in place, beside the sheet of its rows.
-- Assumes nothing.
use Prim.Native.Nat.{ℕ, ◌+◌, ◌-◌, ◌*◌, ◌≤◌}
use native.Mathlib.Omega.{arith}
use mathlib.Core.Path.{◌≡◌, sym, ap, ap₂, ◌∙◌}
use mathlib.Core.Bool.{Bool, true, false}
use mathlib.Core.List.{List, ◌++◌, append-nil}
use lib.ListN.{length, replicate, length-append, length-replicate}
use borrow.Author.Tests.{ltb-true}
use Rattle.lists.specs.Lists.{All, concat_map}
use Rattle.lists.specs.Put.{put}
use Rattle.lists.proofs.Tests.{not-true⇒false}
use Rattle.lists.proofs.ListLaws.{all_map}
use Rattle.lists.proofs.FilterLaws.{filter-pass}
use Rattle.table.specs.declared.Lease.{Lease}
use Rattle.table.specs.declared.LeaseTable.{LeaseTable}
use Rattle.table.specs.Table.{lease_slots, present, empty?, store}
use Rattle.table.proofs.TableLaws.{empty-to, present-fewer, present?}
use Rattle.image.specs.Image.{le32, head_size, pool_size, lease_size, lease_record, used_pools, image_of}
use Rattle.image_check.specs.declared.ImageSummary.{ImageSummary}
use Rattle.image_records.specs.Records.{Records}
use Rattle.image_records.proofs.PutForms.{put-over}
use Rattle.image_records.proofs.RecordLaws.{length-leases, put-leases-same}
use Rattle.figures.specs.declared.FigureRow.{FigureRow}
use Rattle.image_figures.specs.Sheets.{sheet_of}
use Rattle.ledger.specs.Ledger.{state}
use Rattle.call_spec.specs.ImageCalls.{Lent, lent, table_in, stored, stored_in}
use Rattle.call_spec.proofs.InPlace.{length-stored, stored-in-place}
use Rattle.call_rows.specs.Admission.{leases_from, Admitted, left, Finished}

-- FINISH

module _ (l : List ℕ) (from n now : ℕ) (xs : List Lease) (counted : n ≡ length xs) where
  -- None has expired: nothing is written but the last time.
  pub finished-all : Records l from xs → present now xs ≡ xs → (l₁ : List ℕ) → l₁ ≡ put l 9 (le32 now) → Finished l from xs now l₁ (from + lease_size * n)
  finished-all r all l₁ e =
      let none_left : lease_size * (length xs - length (present now xs)) ≡ 0 = omega (arith, ap length all) in
      record {
        bytes-are = omega (arith, ap length all);
        after_is =
            e
            ∙ ap (λ (k : List ℕ). put k 9 (le32 now))
            (sym (ap₂ (λ (k : ℕ) (zs : List Lease). put l from (concat_map lease_record zs ++ replicate k 0)) none_left all
            ∙ ap (put l from) (append-nil (concat_map lease_record xs))
            ∙ put-leases-same l from xs r));
      }

  -- Those that have are removed, with zeros in their place.
  pub finished-some : (kept : ℕ) (l₁ l₂ : List ℕ) → kept ≡ length (present now xs) → l₁ ≡ put l from (concat_map lease_record (present now xs) ++ replicate (lease_size * (n - kept)) 0)
      → l₂ ≡ put l₁ 9 (le32 now) → Finished l from xs now l₂ (from + lease_size * kept)
  finished-some kept l₁ l₂ k e₁ e₂ =
      let size : lease_size * (n - kept) ≡ lease_size * (length xs - length (present now xs)) = omega arith in
      record {
        bytes-are = ap (λ (m : ℕ). from + lease_size * m) k;
        after_is =
            e₂
            ∙ ap (λ (m : List ℕ). put m 9 (le32 now)) (e₁ ∙ ap (λ (m : ℕ). put l from (concat_map lease_record (present now xs) ++ replicate m 0)) size);
      }

-- THE TABLE THAT IS STORED

-- No present lease is an empty slot.
pub present-not-empty : (now : ℕ) (xs : List Lease) → All (λ x. empty? x ≡ false) (present now xs)
unfolding present
present-not-empty now xs =
    all_map (λ (x : Lease) (e : present? now x ≡ true).
    not-true⇒false (empty? x) (λ t. omega (arith, ltb-true now x.expires e, ap (λ (y : Lease). y.expires) (empty-to x t))))
    (present now xs) (filter-pass (present? now) xs)

module _ (sheet : Bool) (h : Lent) (now client : ℕ) (summary : ImageSummary) (o : Admitted sheet h now client summary) where
  from_is : leases_from summary ≡ head_size + pool_size * length (used_pools (table_in h))
  from_is = ap (λ (n : ℕ). head_size + pool_size * n) o.pools

  -- Leases written in the place of the table's, with zeros up to the end of the old image, are the ledger's table stored.
  pub left-in-place : (zs : List Lease) → length zs ≤ lease_slots → All (λ x. empty? x ≡ false) zs → (l : List ℕ) → l ≡ left h.image (leases_from summary) summary.leases zs now
      → (rows : List FigureRow) (f : List ℕ) → f ≡ sheet_of rows → lent l (leases_from summary + lease_size * length zs) f ≡ stored_in (state (store (table_in h) now zs) rows) h.bytes h
  left-in-place zs few full l e rows f sheet-is =
      let t : LeaseTable = table_in h in
      let from : ℕ = head_size + pool_size * length (used_pools t) in
      let zeros : lease_size * (summary.leases - length zs) ≡ h.bytes - (from + lease_size * length zs) = omega (arith, from_is, o.size) in
      let size : leases_from summary + lease_size * length zs ≡ length (image_of (store t now zs)) = omega (arith, from_is, length-stored t now zs full) in
      let whole : l ≡ stored (store t now zs) h.bytes h.image =
      e
      ∙ ap₂ (λ (f k : ℕ). put (put h.image f (concat_map lease_record zs ++ replicate k 0)) 9 (le32 now)) from_is zeros
      ∙ sym (stored-in-place t o.sound h.image h.bytes o.image o.within o.room now zs few full) in
      ap₂ (λ (m : List ℕ) (k : ℕ). lent m k f) whole size ∙ ap (lent (stored (store t now zs) h.bytes h.image) (length (image_of (store t now zs)))) sheet-is

  -- The same of leases edited in place, after the expired ones are removed.
  pub finished-in-place : (xs : List Lease) → length xs ≡ summary.leases → (edited : List ℕ) → edited ≡ put h.image (leases_from summary) (concat_map lease_record xs) → (l : List ℕ) (n : ℕ)
      → Finished edited (leases_from summary) xs now l n → (rows : List FigureRow) (s : List ℕ) → s ≡ sheet_of rows → lent l n s ≡ stored_in (state (store (table_in h) now (present now xs)) rows) h.bytes h
  finished-in-place xs counted edited e l n f rows s sheet-is =
      let from : ℕ = leases_from summary in
      let zs : List Lease = present now xs in
      let new : List ℕ = concat_map lease_record zs ++ replicate (lease_size * (length xs - length zs)) 0 in
      let fewer = present-fewer now xs in
      let long : length new ≡ lease_size * length xs = length-append (concat_map lease_record zs) (replicate (lease_size * (length xs - length zs)) 0) ∙ omega (arith, length-leases zs, length-replicate {A = ℕ} (lease_size * (length xs - length zs)) 0, fewer) in
      let alone : put edited from new ≡ put h.image from new =
      ap (λ (k : List ℕ). put k from new) e ∙ put-over (concat_map lease_record xs) new h.image from (omega (arith, long, length-leases xs)) in
      let after : l ≡ left h.image from summary.leases zs now =
      f.after_is
      ∙ ap (λ (k : List ℕ). put k 9 (le32 now)) alone
      ∙ ap (λ (k : ℕ). left h.image from k zs now) counted in
      ap (λ (k : ℕ). lent l k s) f.bytes-are
      ∙ left-in-place zs (omega (arith, fewer, o.few-leases)) (present-not-empty now xs) l after rows s sheet-is
