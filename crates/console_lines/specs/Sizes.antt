-- How long the lines of answers can be.
use Rattle.std.specs.Prelude.{ℕ, ◌+◌, ◌*◌}
use Rattle.table.specs.Table.{pool_slots, lease_slots}
use Rattle.option.specs.Values.{longest_option}

-- A line that is no command: its number has at most twenty digits.
abbrev pub error_most : ℕ
error_most = 32

-- An answer without octets.
abbrev pub line_most : ℕ
line_most = 37

-- An answer with octets of a buffer of n bytes.
abbrev pub octets_most : ℕ → ℕ
octets_most n = 2 * n + 58

-- What the reader finds: 28 bytes for each of an option's, and ok.
abbrev pub read_most : ℕ
read_most = 28 * longest_option + 3

-- The line of a row of the figures sheet, and the lines of a whole sheet with ok.
abbrev pub row_most : ℕ
row_most = 129

abbrev pub rows_most : ℕ
rows_most = row_most * lease_slots + 3

-- The line of a pool's counts, and the lines of all with ok.
abbrev pub pool_most : ℕ
pool_most = 568

abbrev pub counts_most : ℕ
counts_most = pool_most * pool_slots + 3
