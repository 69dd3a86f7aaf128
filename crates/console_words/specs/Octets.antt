-- What a word spells as octets: "OPTION and IMAGE are hexadecimal digits, upper or lower case, an even number of them; - stands for no bytes."
use Rattle.std.specs.Prelude.{ℕ, ◌+◌, ◌-◌, ◌*◌, cond, Option, Some, None, List, [], ◌∷◌, take, ltb, leb, eqb}
use Rattle.std.proofs.Math.Option.{none, some}
use Rattle.std.proofs.Math.Option as math
use Rattle.console_words.specs.declared.Octets.{Octets}
use Rattle.console_words.specs.Words.{first_word, after_word, last?, between}

-- The value of a hexadecimal digit: 0 to 9, A to F, a to f.
unfoldable pub digit_of : ℕ → Option ℕ
digit_of c =
    cond (ltb c 48) None (cond (leb c 57) (Some (c - 48))
    (cond (ltb c 65) None (cond (leb c 70) (Some (c - 65 + 10))
    (cond (ltb c 97) None (cond (leb c 102) (Some (c - 97 + 10)) None)))))

-- An octet of two digits, and those behind it.
abbrev pub and_then : Option ℕ → Option ℕ → math.Option (List ℕ) → math.Option (List ℕ)
and_then (Some high) (Some low) (some xs) = some ((16 * high + low) ∷ xs)
and_then (Some high) (Some low) none = none
and_then (Some high) None o = none
and_then None l o = none

-- Two digits for each octet.
unfoldable pub pairs_of : List ℕ → math.Option (List ℕ)
pairs_of [] = some []
pairs_of (a ∷ []) = none
pairs_of (a ∷ b ∷ cs) = and_then (digit_of a) (digit_of b) (pairs_of cs)

-- `-` (45) spells no octets; no word spells none.
unfoldable pub octets_of : List ℕ → math.Option (List ℕ)
octets_of [] = none
octets_of (c ∷ []) = cond (eqb c 45) (some []) none
octets_of (c ∷ b ∷ cs) = pairs_of (c ∷ b ∷ cs)

-- The octets of the next word, if it is the last one.
abbrev pub last_octets : List ℕ → math.Option (List ℕ)
last_octets xs = cond (last? (after_word xs)) (octets_of (first_word xs)) none

-- The octets that stand in a line, if they are any.
abbrev pub octets_in : List ℕ → Option Octets → math.Option (List ℕ)
octets_in s (Some o) = some (between o.start o.end s)
octets_in s None = none

-- So many octets at the front, if they are any.
abbrev pub front : Option ℕ → List ℕ → math.Option (List ℕ)
front (Some n) s = some (take n s)
front None s = none
