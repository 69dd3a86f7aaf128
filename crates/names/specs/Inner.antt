-- What the private functions promise each other. Nothing here stands in the promise of a public one.
use Rattle.std.specs.Prelude.{ℕ, length}
use Rattle.names.specs.Names.{octets, without_zeros}

-- How many octets of a word there are up to the last that is not zero.
abbrev pub word_length : ℕ → ℕ
word_length w = length (without_zeros (octets 8 w))
