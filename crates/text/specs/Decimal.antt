-- Decimal numbers as text.
use Rattle.std.specs.Prelude.{ℕ, zero, suc, ◌+◌, ◌/◌, ◌%◌, cond, List, [], ◌∷◌, ◌++◌, ltb}

-- The last digit of a number.
abbrev pub digit : ℕ → ℕ
digit n = 48 + n % 10

-- A number in decimal with no zero in front; at most `more` digits stand before the last.
unfoldable pub digits : ℕ → ℕ → List ℕ
digits zero n = digit n ∷ []
digits (suc more) n = let front = digits more (n / 10) in cond (ltb n 10) (digit n ∷ []) (front ++ (digit n ∷ []))

-- Ten digits hold every number of 32 bits.
abbrev pub decimal : ℕ → List ℕ
decimal n = digits 9 n
