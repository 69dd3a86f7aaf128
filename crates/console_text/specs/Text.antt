-- Numbers, octets and patterns as text.
use Rattle.std.specs.Prelude.{ℕ, ◌+◌, ◌/◌, ◌%◌, ◌≡◌, Bool, true, false, List, [], ◌∷◌, ◌++◌, length, eqb}
use Rattle.lists.specs.Put.{put}
use Rattle.io.specs.Digits.{hex_digit_ascii, last_digits, IsDigitCount}

-- An octet as two hexadecimal digits, in lower case.
abbrev pub hex_of : ℕ → List ℕ
hex_of x = hex_digit_ascii (x / 16) ∷ hex_digit_ascii (x % 16) ∷ []

-- After a number was written in decimal from a place on: k digits, the fewest that hold it, and all other bytes as before.
pub record Decimal (n : ℕ) (before : List ℕ) (at : ℕ) (after : List ℕ) (k : ℕ) : Type 0 where
  pub fewest : IsDigitCount 10 1 n k
  pub bytes : after ≡ put before at (last_digits 10 k n)

-- A text that goes on with a byte, or with a number in decimal, and then as it may.
pub record Byte (c : ℕ) (later : List ℕ → Type 0) (text : List ℕ) : Type 0 where
  pub rest : List ℕ
  pub same : text ≡ c ∷ rest
  pub goes_on : later rest

pub record Spelt (n : ℕ) (later : List ℕ → Type 0) (text : List ℕ) : Type 0 where
  pub k : ℕ
  pub fewest : IsDigitCount 10 1 n k
  pub rest : List ℕ
  pub same : text ≡ last_digits 10 k n ++ rest
  pub goes_on : later rest

-- A text that is a pattern with the next number for each `%` (37) that one is left for.
abbrev pub Piece : Bool → ℕ → List ℕ → (List ℕ → List ℕ → Type 0) → List ℕ → Type 0
Piece true c (n ∷ ns) later text = Spelt n (later ns) text
Piece true c [] later text = Byte c (later []) text
Piece false c ns later text = Byte c (later ns) text

abbrev pub Spells : List ℕ → List ℕ → List ℕ → Type 0
Spells [] ns text = text ≡ []
Spells (c ∷ cs) ns text = Piece (eqb c 37) c ns (Spells cs) text

-- After such a text was written from a place on: it ends before r, and all other bytes are as before.
pub record Filled (pattern numbers before : List ℕ) (at : ℕ) (after : List ℕ) (r : ℕ) : Type 0 where
  pub text : List ℕ
  pub spells : Spells pattern numbers text
  pub bytes : after ≡ put before at text
  pub ends : r ≡ at + length text
