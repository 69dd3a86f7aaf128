-- Where an octet is found first.
use Rattle.std.specs.Prelude.{ℕ, ◌==◌, List, length, position, unwrap_or}

-- The index of the first b, or the length where there is none.
abbrev pub index_of : ℕ → List ℕ → ℕ
index_of b xs = unwrap_or (position (λ x. x == b) xs) (length xs)
