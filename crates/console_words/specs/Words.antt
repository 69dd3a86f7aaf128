-- The words of a line: "Words are separated by one or more spaces."
use Rattle.std.specs.Prelude.{ℕ, ◌-◌, ◌≤◌, ◌≡◌, Bool, true, false, cond, List, [], ◌∷◌, length, take, drop, eqb}
use Rattle.octets.specs.Seeking.{index_of}
use Rattle.console_words.specs.declared.Word.{Word}

-- What stands before the first b, and from there on: nothing, where there is none.
unfoldable pub up_to : ℕ → List ℕ → List ℕ
up_to b xs = take (index_of b xs) xs

unfoldable pub from_on : ℕ → List ℕ → List ℕ
from_on b xs = drop (index_of b xs) xs

-- Without the spaces (32) in front.
unfoldable pub skip_spaces : List ℕ → List ℕ
skip_spaces [] = []
skip_spaces (c ∷ cs) = cond (eqb c 32) (skip_spaces cs) (c ∷ cs)

-- The next word of what is left of a line, and what is left behind it.
abbrev pub first_word : List ℕ → List ℕ
first_word xs = up_to 32 (skip_spaces xs)

abbrev pub after_word : List ℕ → List ℕ
after_word xs = from_on 32 (skip_spaces xs)

abbrev pub empty? : List ℕ → Bool
empty? [] = true
empty? (x ∷ xs) = false

-- No further word is left.
abbrev pub last? : List ℕ → Bool
last? xs = empty? (skip_spaces xs)

-- The bytes of a line from a place to before another.
abbrev pub between : ℕ → ℕ → List ℕ → List ℕ
between start end s = take (end - start) (drop start s)

-- Where the next word stands.
pub record NextWord (s : List ℕ) (from : ℕ) (w : Word) : Type 0 where
  pub later : from ≤ w.start
  pub ordered : w.start ≤ w.end
  pub inside : w.end ≤ length s
  pub word : between w.start w.end s ≡ first_word (drop from s)
  pub rest : drop w.end s ≡ after_word (drop from s)
