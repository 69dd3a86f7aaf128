-- What the parts of the reader of a line leave.
use Rattle.std.specs.Prelude.{ℕ, cond, Option, Some, None, List}
use Rattle.console_words.specs.declared.Octets.{Octets}
use Rattle.console_words.specs.Words.{first_word, after_word, last?}
use Rattle.console_words.specs.Numbers.{number_of}
use Rattle.console_script.specs.Commands.{CommandValue, bad, octets_at}

-- The number of the next word, if it is the last one.
abbrev pub last_number : List ℕ → Option ℕ
last_number xs = cond (last? (after_word xs)) (number_of (first_word xs)) None

-- A command that stands alone, or with octets.
abbrev pub sized_in : List ℕ → Option (Option Octets) → CommandValue → (List ℕ → CommandValue) → CommandValue
sized_in s None alone f = bad
sized_in s (Some None) alone f = alone
sized_in s (Some (Some o)) alone f = f (octets_at s o)
