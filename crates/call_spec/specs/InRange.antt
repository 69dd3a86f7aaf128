-- What is lent, in range of the code's types.
use Rattle.std.specs.Prelude.{ℕ, List}
use Rattle.lists.specs.Lists.{All}
use Rattle.ledger.specs.Sizes.{Bytes}
use Rattle.ledger.specs.InRange.{Word, Figure, ResultInRange, OpenInRange}
use Rattle.call_spec.specs.ImageCalls.{Lent}
use Rattle.call_spec.specs.Books.{Book, open_book, load_book}

pub record LentInRange (h : Lent) : Type 0 where
  pub image : Bytes h.image
  pub bytes : Word h.bytes
  pub figures : Bytes h.figures

-- A count has 16 bits, as a figure has.
pub record BookInRange (b : Book) : Type 0 where
  pub lent : LentInRange b.lent
  pub counts : All (All Figure) b.counts

-- Open and load, which fill it.
abbrev pub OpensInRange : Type 0
OpensInRange = (b : Book) (networks lengths : List ℕ) (term default_length start : ℕ) → BookInRange b → OpenInRange networks lengths term default_length start
    → ResultInRange BookInRange (open_book b networks lengths term default_length start)

abbrev pub LoadsInRange : Type 0
LoadsInRange = (b : Book) (saved : List ℕ) → BookInRange b → Bytes saved → ResultInRange BookInRange (load_book b saved)
