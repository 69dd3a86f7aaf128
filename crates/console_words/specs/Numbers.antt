-- What a word spells as a number.
use Rattle.std.specs.Prelude.{ℕ, ◌+◌, ◌-◌, ◌*◌, ◌≤◌, ◌≡◌, Bool, cond, ◌&&◌, Option, Some, None, List, [], ◌∷◌, length, drop, ltb, leb, eqb}
use Rattle.lists.specs.Lists.{all?}
use Rattle.console_words.specs.Words.{first_word, after_word}
use Rattle.console_words.specs.declared.Spelled.{Spelled}

-- The bytes 0 to 9.
abbrev pub digit? : ℕ → Bool
digit? c = leb 48 c && leb c 57

-- The value of decimal digits, the high one first, behind those that made n.
abbrev pub value_from : ℕ → List ℕ → ℕ
value_from n [] = n
value_from n (c ∷ cs) = value_from (10 * n + (c - 48)) cs

-- "Numbers .. are decimal digits with a value below 2^32", at least one.
unfoldable pub number_of : List ℕ → Option ℕ
number_of [] = None
number_of (c ∷ cs) = cond (ltb (value_from 0 (c ∷ cs)) 4294967296) (cond (all? digit? (c ∷ cs)) (Some (value_from 0 (c ∷ cs))) None) None

-- "A to D 0 to 255 and L below 256", "DEFAULT below 256".
abbrev pub octet_of : Option ℕ → Option ℕ
octet_of (Some n) = cond (ltb n 256) (Some n) None
octet_of None = None

-- "D is 0 or 1".
abbrev pub flag_of : List ℕ → Option ℕ
flag_of [] = None
flag_of (c ∷ []) = cond (eqb c 48) (Some 0) (cond (eqb c 49) (Some 1) None)
flag_of (c ∷ b ∷ cs) = None

-- The number that the next word spells, and the place behind it.
pub record NextNumber (spelt : List ℕ → Option ℕ) (s : List ℕ) (from : ℕ) (r : Spelled ℕ) : Type 0 where
  pub inside : r.end ≤ length s
  pub value : r.value ≡ spelt (first_word (drop from s))
  pub rest : drop r.end s ≡ after_word (drop from s)
