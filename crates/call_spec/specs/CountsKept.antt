-- HOW MUCH IS LEFT (document 02, M-102), of the open book: the counts are kept, and a book whose counts differ is unsound.
use Rattle.std.specs.Prelude.{ℕ, ◌≡◌, Bool, false}
use Rattle.table.specs.Table.{sound}
use Rattle.counts.specs.Counts.{counts_of}
use Rattle.ledger.specs.Ledger.{Call, Result}
use Rattle.ledger.specs.Histories.{Reachable}
use Rattle.call_spec.specs.ImageCalls.{table_in}
use Rattle.call_spec.specs.Books.{Book, state_in_book, book_calls}
use Rattle.call_spec.specs.OnBooks.{Begins}

-- The counts are "equal to what a fresh walk would find" in the table that the next call is given.
abbrev pub Right : Book → Type 0
Right b = b.counts ≡ counts_of (state_in_book b).table

-- "a book whose counts differ is unsound"
abbrev pub DifferingUnsound : Type 0
DifferingUnsound = (b : Book) → (b.counts ≡ counts_of (table_in b.lent) → ⊥) → sound (state_in_book b).table ≡ false

-- "Every call that changes lines keeps it equal to what a fresh walk would find"; and where a call is accepted that changes none, they were right.
abbrev pub RightIfAccepted : Result Book → Type 0
RightIfAccepted r = r.answer.number ≡ 0 → Right r.state

pub record CountsKept : Type 0 where
  pub asks : (b : Book) (now : ℕ) (c : Call) → RightIfAccepted (book_calls.asks b now c)
  pub takes : (b : Book) (now : ℕ) (c : Call) → RightIfAccepted (book_calls.takes b now c)
  pub lists : (b : Book) (now : ℕ) (c : Call) → RightIfAccepted (book_calls.lists b now c)
  pub releases : (b : Book) (now : ℕ) (c : Call) → RightIfAccepted (book_calls.releases b now c)
  pub marks : (b : Book) (now network len : ℕ) (d : Bool) → RightIfAccepted (book_calls.marks b now network len d)

-- From an open or a load on, they are right after every history of calls: "Load works the counts out."
abbrev pub AlwaysRight : Type 0
AlwaysRight = (b : Book) → Reachable book_calls Begins b → Right b
