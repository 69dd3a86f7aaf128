-- The counts that octets spell: "8 rows of 23 numbers, 2 bytes each, little-endian".
use Rattle.std.specs.Prelude.{ℕ, zero, suc, ◌+◌, ◌*◌, List, [], ◌∷◌, drop, get_or}
use Rattle.table.specs.Table.{pool_slots}
use Rattle.counts.specs.Counts.{counted_lengths}

unfoldable pub numbers_in : ℕ → List ℕ → List ℕ
numbers_in zero s = []
numbers_in (suc n) s = (get_or s 0 0 + 256 * get_or s 1 0) ∷ numbers_in n (drop 2 s)

unfoldable pub rows_in : ℕ → List ℕ → List (List ℕ)
rows_in zero s = []
rows_in (suc n) s = numbers_in counted_lengths s ∷ rows_in n (drop (2 * counted_lengths) s)

abbrev pub counts_in : List ℕ → List (List ℕ)
counts_in s = rows_in pool_slots s
