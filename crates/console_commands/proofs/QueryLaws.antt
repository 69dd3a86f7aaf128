-- What the check of the open book says, and the counts of a sound one.
-- Assumes nothing.
use Prim.Native.Nat.{ℕ, ◌+◌, ◌-◌, ◌*◌, ◌≤◌}
use native.Mathlib.Omega.{arith}
use mathlib.Core.Path.{◌≡◌, refl, sym, ap, ◌∙◌}
use mathlib.Core.Bool.{Bool, true, false, cond}
use mathlib.Core.List.{List, [], ◌++◌, map}
use mathlib.Core.Option.{Option, none, some}
use lib.ListN.{length, drop, replicate, length-map}
use Rattle.table.specs.declared.LeaseTable.{LeaseTable}
use Rattle.table.specs.Table.{pool_slots, pool_prefix, prefix_of, prefixes_of, pools_of, present, sound}
use Rattle.counts.specs.Counts.{counted_lengths, count_row, counts_of}
use Rattle.image.specs.Image.{head_size, pool_size, used_pools}
use Rattle.image_records.proofs.PoolRecords.{image-pools}
use Rattle.image_records.proofs.SoundLaws.{used-few}
use Rattle.std.specs.Prelude.{Result as Res, Ok, Err}
use Rattle.ledger.specs.declared.{Accepted.Accepted, Answer.Answer, Refusal.Refusal}
use Rattle.ledger.specs.Answers.{answer_of}
use Rattle.ledger.specs.Ledger.{refusal, acceptance, first_of, or_else, table_rows}
use Rattle.ledger.specs.Sizes.{Bytes}
use Rattle.call_spec.specs.ImageCalls.{Lent, lent, table_in, state_in}
use Rattle.call_spec.specs.Books.{Book, book_of, counted?, lent_in, whole_book}
use Rattle.call_spec.proofs.BookLaws.{counted-to, sound-counted, sound-lent}
use Rattle.call_spec.proofs.TableLaws.{held-image, held-room}
use Rattle.call_query.specs.Queries.{check_image}
use Rattle.console_lines.specs.Lines.{ok_line, refused_line}
use Rattle.console_lines.specs.CountLines.{pool_texts, counts_text, pools_at}
use Rattle.console_lines.proofs.CountLaws.{of-table}
use Rattle.console_commands.specs.Commands.{of_sound}

-- A QUERY HAS NO FIGURES SHEET: with any beside it the table is the same.
module _ (image : List ℕ) (bytes : ℕ) (figures : List ℕ) (counts : List (List ℕ)) where
  pub table_beside : table_in (lent_in (book_of image bytes figures counts)) ≡ table_in (lent_in (book_of image bytes [] counts))
  unfolding lent_in counted? table_in
  table_beside = by (counted? (book_of image bytes [] counts))
    where
      by : (t : Bool) → table_in (cond t (lent image bytes figures) (lent image 0 figures)) ≡ table_in (cond t (lent image bytes []) (lent image 0 []))
      by true = refl
      by false = refl

  pub check-beside : check_image (lent_in (book_of image bytes [] counts)) ≡ check_image (lent_in (book_of image bytes figures counts))
  unfolding check_image
  check-beside = ap (λ (t : LeaseTable). or_else (first_of (table_rows (record { table = t; rows = [] }))) (λ number. refusal number 0) (acceptance 0 0)) (sym table_beside)

  pub whole-beside : (len : ℕ) → whole_book (book_of image bytes [] counts) len ≡ whole_book (book_of image bytes figures counts) len
  unfolding whole_book
  whole-beside len = rw table_beside

-- WHAT IT SAYS
module _ (h : Lent) where
  pub check_sound : (check_image h).number ≡ 0 → sound (table_in h) ≡ true
  unfolding check_image
  check_sound z = by (sound (table_in h)) refl
    where
      by : (t : Bool) → sound (table_in h) ≡ t → sound (table_in h) ≡ true
      by true e = e
      by false e = let five : 5 ≡ (check_image h).number = rw e in absurd (omega (arith, five, z))

module _ (b : Book) (text : List ℕ) where
  pub refused-line : ((check_image (lent_in b)).number ≡ 0 → ⊥) → refused_line (check_image (lent_in b)).number (check_image (lent_in b)).place ≡ of_sound b text
  unfolding check_image
  refused-line k = by (first_of (table_rows (state_in (lent_in b)))) k
    where
      answer : Option ℕ → Answer
      answer o = or_else o (λ number. refusal number 0) (acceptance 0 0)

      by : (o : Option ℕ) → ((answer o).number ≡ 0 → ⊥) → refused_line (answer o).number (answer o).place ≡ or_else o (λ number. refused_line number 0) text
      by none j = absurd (j refl)
      by (some n) j = refl

  pub shown-text : sound (table_in (lent_in b)) ≡ true → text ≡ of_sound b text
  shown-text e = rw e

-- A call that is not refused is accepted.
pub passed : (r : Res Accepted Refusal) → ((e : Refusal) → r ≡ Err e → ⊥) → (answer_of r).number ≡ 0
passed (Ok a) k = refl
passed (Err e) k = absurd (k e refl)

-- From a check that had no figures sheet.
module _ (image : List ℕ) (bytes : ℕ) (figures : List ℕ) (counts : List (List ℕ)) (a : Answer) (is : a ≡ check_image (lent_in (book_of image bytes [] counts))) where
  answers : a ≡ check_image (lent_in (book_of image bytes figures counts))
  answers = is ∙ check-beside image bytes figures counts

  pub refused-text : (text : List ℕ) → (a.number ≡ 0 → ⊥) → refused_line a.number a.place ≡ of_sound (book_of image bytes figures counts) text
  refused-text text k =
      ap (λ (r : Answer). refused_line r.number r.place) answers
      ∙ refused-line (book_of image bytes figures counts) text (λ z. k (ap (λ (r : Answer). r.number) answers ∙ z))

  pub sound-here : a.number ≡ 0 → sound (table_in (lent_in (book_of image bytes figures counts))) ≡ true
  sound-here z = check_sound (lent_in (book_of image bytes figures counts)) (sym (ap (λ (r : Answer). r.number) answers) ∙ z)

-- COUNTS
module _ (b : Book) (s : sound (table_in (lent_in b)) ≡ true) where
  sound-book : sound (table_in b.lent) ≡ true
  sound-book = sym (ap (λ (h : Lent). sound (table_in h)) (sound-lent b s)) ∙ s

  -- The records of all pools are in the buffer.
  pub room-for-pools : head_size + pool_size * pool_slots ≤ length b.lent.image
  room-for-pools = omega (arith, held-room b.lent sound-book)

  pub its-counts : Bytes b.lent.image → counts_text (pools_at pool_slots (drop head_size b.lent.image)) b.counts ≡ counts_text (used_pools (table_in b.lent)) b.counts
  unfolding counts_of prefixes_of
  its-counts bytes = ap (λ (l : List ℕ). l ++ ok_line) texts
    where
      t : LeaseTable
      t = table_in b.lent

      rows : List (List ℕ)
      rows = map (count_row (map prefix_of (present t.last t.leases))) (pools_of t)

      counts-are : b.counts ≡ rows ++ replicate (pool_slots - length (pools_of t)) (replicate counted_lengths 0)
      counts-are = counted-to b (sound-counted b s)

      size : length rows ≡ length (used_pools t)
      size = length-map (pools_of t) (count_row (map prefix_of (present t.last t.leases))) ∙ length-map (used_pools t) pool_prefix

      texts : pool_texts (pools_at pool_slots (drop head_size b.lent.image)) b.counts ≡ pool_texts (used_pools t) b.counts
      texts =
          ap (pool_texts (pools_at pool_slots (drop head_size b.lent.image))) counts-are
          ∙ of-table (used_pools t) rows pool_slots (pool_slots - length (pools_of t)) counted_lengths (drop head_size b.lent.image) size (used-few t sound-book).0
          (image-pools t b.lent.image b.lent.bytes (held-image b.lent sound-book bytes))
          ∙ ap (pool_texts (used_pools t)) (sym counts-are)
