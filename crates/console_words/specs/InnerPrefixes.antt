-- What the parts of the reader of prefixes leave.
use Rattle.std.specs.Prelude.{ℕ, ◌≤◌, ◌≡◌, List, length, drop}
use Rattle.console_words.specs.Words.{up_to, from_on}
use Rattle.console_words.specs.Numbers.{number_of, octet_of}
use Rattle.console_words.specs.declared.Spelled.{Spelled}

-- The octet before the next dot, and the place where that stands, or the end.
pub record NextOctet (s : List ℕ) (from : ℕ) (r : Spelled ℕ) : Type 0 where
  pub later : from ≤ r.end
  pub inside : r.end ≤ length s
  pub spelt : r.value ≡ octet_of (number_of (up_to 46 (drop from s)))
  pub rest : drop r.end s ≡ from_on 46 (drop from s)
