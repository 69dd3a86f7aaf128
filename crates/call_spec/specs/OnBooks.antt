-- Where a history of calls on what is lent begins, and what holds of the calls that make a book or have no sheet.
use Rattle.std.specs.Prelude.{ℕ, ◌≡◌, Bool, List, []}
use Rattle.image.specs.declared.Form.{Form}
use Rattle.ledger.specs.Sizes.{Bytes}
use Rattle.ledger.specs.Ledger.{Call, Result, outcome}
use Rattle.ledger.specs.Histories.{Event}
use Rattle.ledger.specs.Conservation.{Conserved}
use Rattle.ledger.specs.Refusals.{UnchangedIfRefused}
use Rattle.ledger.specs.FiguresKept.{AllUntold}
use Rattle.call_spec.specs.Books.{Book, book_of, state_in_book, list_book, book_calls, open_book, load_book, save_book}

-- An accepted open, or an accepted load of bytes.
pub data Begins : Book → Type 0 where
  opened : (b : Book) (networks lengths : List ℕ) (term default_length start : ℕ) → (open_book b networks lengths term default_length start).answer.number ≡ 0
      → Begins (open_book b networks lengths term default_length start).state
  loaded : (b : Book) (saved : List ℕ) → Bytes saved → (load_book b saved).answer.number ≡ 0 → Begins (load_book b saved).state

-- "from open": an accepted open leaves a table with no lease.
abbrev pub FromOpen : Type 0
FromOpen = (b : Book) (networks lengths : List ℕ) (term default_length start : ℕ) (es : List Event) → (open_book b networks lengths term default_length start).answer.number ≡ 0
    → Conserved book_calls 0 (open_book b networks lengths term default_length start).state es

-- "open and load fill it": rows that match, all untold.
abbrev pub StartsUntold : Type 0
StartsUntold = (b : Book) → Begins b → AllUntold (state_in_book b)

-- REFUSALS of open, load and save: of image, length, sheet, counts and buffer every byte is what it was. (Of the other calls: `RefusalsLeave`.)
pub record RefusalsLeaveBook : Type 0 where
  pub opens : (b : Book) (networks lengths : List ℕ) (term default_length start : ℕ) → UnchangedIfRefused b [] (open_book b networks lengths term default_length start)
  pub loads : (b : Book) (saved : List ℕ) → UnchangedIfRefused b [] (load_book b saved)
  pub saves : (b : Book) (form : Form) (older : Bool) (buffer : List ℕ) → UnchangedIfRefused b buffer (save_book b form older buffer)

-- CALLS WITHOUT THE SHEET: "Ask, take, return and mark take the sheet". What list and save give with any sheet they give with none, and it stays as it was.
abbrev pub GivenAlike : List ℕ → ℕ → List ℕ → List (List ℕ) → (Book → Result Book) → Type 0
GivenAlike image bytes figures counts f =
    let r = f (book_of image bytes [] counts) in
    f (book_of image bytes figures counts) ≡ outcome r.answer (book_of image bytes figures counts) r.reply

pub record WithoutSheet : Type 0 where
  pub lists : (image : List ℕ) (bytes : ℕ) (figures : List ℕ) (counts : List (List ℕ)) (now : ℕ) (c : Call) → GivenAlike image bytes figures counts (λ b. list_book b now c)
  pub saves : (image : List ℕ) (bytes : ℕ) (figures : List ℕ) (counts : List (List ℕ)) (form : Form) (older : Bool) (buffer : List ℕ)
      → GivenAlike image bytes figures counts (λ b. save_book b form older buffer)
