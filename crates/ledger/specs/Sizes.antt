-- The sizes of the code's types, on the ledger's numbers.
use Rattle.std.specs.Prelude.{ℕ, ◌<◌, List}
use Rattle.lists.specs.Lists.{All}

abbrev pub Byte : ℕ → Type 0
Byte n = n < 256

abbrev pub Bytes : List ℕ → Type 0
Bytes l = All Byte l
