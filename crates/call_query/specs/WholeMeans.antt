-- WHAT THE QUERY ANSWERS (document 02, M-102): "The shift lead asks 'how many /26 are whole?' all day."
use Rattle.std.specs.Prelude.{ℕ, ◌≡◌, ◌⊎◌, ◌↔◌, false, map}
use Rattle.table.specs.Table.{prefix_of, pools_of, present, sound}
use Rattle.counts.specs.Meaning.{CountsWholes}
use Rattle.call_spec.specs.Books.{Book, state_in_book, whole_book}

pub record WholeMeans : Type 0 where
  -- "A query for a length sums over the roots, .. speaks of the book as last written": its count is the number of whole free blocks of that length, of every
  -- length; outside 8 to 30 there is none.
  pub counts : (b : Book) (len : ℕ) → (whole_book b len).number ≡ 0
      → CountsWholes (pools_of (state_in_book b).table) (map prefix_of (present (state_in_book b).table.last (state_in_book b).table.leases)) len (whole_book b len).count
  -- "its only refusal is 5", of a book that is unsound.
  pub refused : (b : Book) (len : ℕ) → ((whole_book b len).number ≡ 5) ↔ (sound (state_in_book b).table ≡ false)
  pub only : (b : Book) (len : ℕ) → ((whole_book b len).number ≡ 0) ⊎ ((whole_book b len).number ≡ 5)
