-- A lease's name (document 02, M-105): "a name of 0 to 24 octets, the last not zero". It is kept as 24 octets, "zero after the name", eight to a word: a name
-- does not end in zero, so these octets tell it (`name-reads`, `name-rules`).
use Rattle.std.specs.Prelude.{ℕ, zero, suc, ◌+◌, ◌-◌, ◌*◌, ◌/◌, ◌%◌, Bool, cond, List, [], ◌∷◌, ◌++◌, length, drop, take, replicate, eqb}
use Rattle.lists.specs.Lists.{and}
use Rattle.names.specs.declared.Name.{Name}

-- As LONGEST in the code.
abbrev pub longest_name : ℕ
longest_name = 24

-- OCTETS OF A NUMBER

-- A number in so many octets, low octet first; the last has what is left.
unfoldable pub octets : ℕ → ℕ → List ℕ
octets zero n = []
octets (suc zero) n = n ∷ []
octets (suc (suc k)) n = n % 256 ∷ octets (suc k) (n / 256)

-- The number that octets spell.
unfoldable pub spells : List ℕ → ℕ
spells [] = 0
spells (x ∷ xs) = x + 256 * spells xs

-- NAMES

abbrev pub no_name : Name
no_name = record { first = 0; second = 0; third = 0 }

unfoldable pub unnamed? : Name → Bool
unnamed? n = and (eqb n.first 0 ∷ eqb n.second 0 ∷ eqb n.third 0 ∷ [])

-- Its 24 octets.
unfoldable pub name_octets : Name → List ℕ
name_octets n = octets 8 n.first ++ (octets 8 n.second ++ octets 8 n.third)

-- The name that 24 octets at the front of these are.
unfoldable pub name_in : List ℕ → Name
name_in s = record { first = spells (take 8 s); second = spells (take 8 (drop 8 s)); third = spells (take 8 (drop 16 s)) }

-- The name of these octets: "zero after the name".
abbrev pub name_of : List ℕ → Name
name_of xs = name_in (xs ++ replicate (longest_name - length xs) 0)

-- The octets without the zeros that they end in.
abbrev pub behind : ℕ → List ℕ → List ℕ
behind x [] = cond (eqb x 0) [] (x ∷ [])
behind x (y ∷ ys) = x ∷ y ∷ ys

unfoldable pub without_zeros : List ℕ → List ℕ
without_zeros [] = []
without_zeros (x ∷ xs) = behind x (without_zeros xs)

-- The name itself, 0 to 24 octets, and how many it has.
abbrev pub name_text : Name → List ℕ
name_text n = without_zeros (name_octets n)

abbrev pub name_length : Name → ℕ
name_length n = length (name_text n)
