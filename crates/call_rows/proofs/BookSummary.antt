-- Laws of what the check says of an open book: by its counts, the same as of what is lent, or as of no bytes.
-- Assumes nothing.
use Prim.Native.Nat.{ℕ, ◌+◌, ◌-◌, ◌*◌, ◌/◌, ◌≤◌}
use native.Mathlib.Omega.{arith}
use mathlib.Core.Path.{◌≡◌, refl, sym, ap, subst, ◌∙◌}
use mathlib.Core.Logic.{⊎_elim}
use mathlib.Core.Bool.{Bool, true, false, true≢false}
use mathlib.Core.List.{List, []}
use mathlib.Core.Option.{none}
use Rattle.std.specs.Prelude.{Some, None}
use Rattle.std.proofs.lemmas.Option.{same_Some}
use lib.ListN.{length, take}
use Rattle.lists.proofs.Tests.{bool_cases}
use Rattle.table.specs.declared.LeaseTable.{LeaseTable}
use Rattle.table.specs.Table.{pool_slots, sound}
use Rattle.image.specs.Image.{head_size, pool_size, lease_size, used_pools, used_leases, image_of}
use Rattle.image.specs.Reading.{load_image}
use Rattle.image.proofs.ImageLaws.{length-image}
use Rattle.image_records.proofs.SoundLaws.{used-few}
use Rattle.image_check.specs.declared.ImageSummary.{ImageSummary}
use Rattle.image_check.specs.ImageSummary.{summary_at, summary_of}
use Rattle.counts.specs.Counts.{counts_of, same_counts?}
use Rattle.image_counts.specs.Standing.{Stands, SomeTable}
use Rattle.ledger.specs.Sizes.{Bytes}
use Rattle.call_spec.specs.ImageCalls.{Lent, lent, holds?, image_in, table_in}
use Rattle.call_spec.specs.Books.{book_of, counted?, lent_in}
use Rattle.call_spec.proofs.TableLaws.{nothing-loads, held-loads, held-image, held-length}
use Rattle.call_spec.proofs.BookLaws.{cond_both, lent-counted, lent-differing}
use Rattle.call_rows.specs.Admission.{LeftSound}
use Rattle.call_rows.specs.InnerSummary.{SummaryIn}
use Rattle.call_rows.proofs.SummaryLaws.{summary-in}

-- NO BYTES

no-image : (image figures : List ℕ) → load_image (image_in (lent image 0 figures)) ≡ none
no-image image figures = ap (λ (n : ℕ). load_image (take n image)) (cond_both (holds? (lent image 0 figures)) 0) ∙ nothing-loads

-- A SOUND TABLE STANDS at the front of its buffer.
pub stands : (h : Lent) → sound (table_in h) ≡ true → image_of (table_in h) ≡ take h.bytes h.image → length (image_of (table_in h)) ≡ h.bytes → (pools leases : ℕ)
    → pools ≡ length (used_pools (table_in h)) → leases ≡ length (used_leases (table_in h)) → Stands (table_in h) h.image pools leases
stands h s image size pools leases p l = record { sound-table = s; image-is = image ∙ ap (λ (n : ℕ). take n h.image) (sym size); pools-are = p; leases-are = l }

-- THE SUMMARY

module _ (image : List ℕ) (bytes : ℕ) (counts : List (List ℕ)) (now : ℕ) (b : Bytes image) where
  -- Of no bytes it says nothing.
  nothing-in : (figures : List ℕ) → SummaryIn (lent image 0 figures) now None
  nothing-in figures = summary-in (lent image 0 figures) now b None (ap (summary_of now) (sym (no-image image figures)))

  -- Of what is no image nothing is judged.
  pub book-unsound : ((figures : List ℕ) → SummaryIn (lent image bytes figures) now None) → (figures : List ℕ) → SummaryIn (lent_in (book_of image bytes figures counts)) now None
  book-unsound i figures =
      ⊎_elim
      (λ (c : counted? (book_of image bytes figures counts) ≡ true).
      subst (λ (h : Lent). SummaryIn h now None) (sym (lent-counted (book_of image bytes figures counts) c)) (i figures))
      (λ (c : counted? (book_of image bytes figures counts) ≡ false).
      subst (λ (h : Lent). SummaryIn h now None) (sym (lent-differing (book_of image bytes figures counts) c)) (nothing-in figures))
      (bool_cases (counted? (book_of image bytes figures counts)))

  module _ (summary : ImageSummary) (i : (figures : List ℕ) → SummaryIn (lent image bytes figures) now (Some summary)) where
    pub summary-stands : (figures : List ℕ) → Stands (table_in (lent image bytes figures)) image summary.pools summary.leases
    summary-stands figures =
        let h : Lent = lent image bytes figures in
        let s : sound (table_in h) ≡ true = sym (i figures).sound in
        let whole = same_Some summary (summary_at now (table_in h)) ((i figures).is ∙ ap (summary_of now) (held-loads h s)) in
        stands h s (held-image h s b) (held-length h s b) summary.pools summary.leases (ap (λ (x : ImageSummary). x.pools) whole) (ap (λ (x : ImageSummary). x.leases) whole)

    pub summary-some : SomeTable image summary.pools summary.leases
    summary-some = record { table = table_in (lent image bytes []); stands = summary-stands [] }

    module _ (right : Bool) (r : (t : LeaseTable) → Stands t image summary.pools summary.leases → right ≡ same_counts? counts (counts_of t)) where
      judged : (figures : List ℕ) → counted? (book_of image bytes figures counts) ≡ right
      unfolding counted?
      judged figures = sym (r (table_in (lent image bytes figures)) (summary-stands figures))

      pub book-counted : right ≡ true → (figures : List ℕ) → SummaryIn (lent_in (book_of image bytes figures counts)) now (Some summary)
      book-counted c figures =
          subst (λ (h : Lent). SummaryIn h now (Some summary)) (sym (lent-counted (book_of image bytes figures counts) (judged figures ∙ c))) (i figures)

      pub book-differing : right ≡ false → (figures : List ℕ) → SummaryIn (lent_in (book_of image bytes figures counts)) now None
      book-differing c figures =
          subst (λ (h : Lent). SummaryIn h now None) (sym (lent-differing (book_of image bytes figures counts) (judged figures ∙ c))) (nothing-in figures)

-- COUNTED AGAIN

module _ (g : Lent) (pools : ℕ) (left : LeftSound g pools) where
  abbrev from : ℕ
  from = head_size + pool_size * pools

  bytes-are : from + lease_size * length (used_leases (table_in g)) ≡ g.bytes
  bytes-are = omega (arith, left.pools-are, length-image (table_in g), left.size)

  pub left-from : from ≤ g.bytes
  left-from = omega (arith, bytes-are)

  pub left-few : pools ≤ pool_slots
  left-few = omega (arith, left.pools-are, (used-few (table_in g) left.sound).0)

  pub left-stands : Stands (table_in g) g.image pools ((g.bytes - from) / lease_size)
  left-stands = stands g left.sound left.image left.size pools ((g.bytes - from) / lease_size) left.pools-are (omega (arith, bytes-are))

  pub left-some : SomeTable g.image pools ((g.bytes - from) / lease_size)
  left-some = record { table = table_in g; stands = left-stands }
