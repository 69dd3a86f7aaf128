-- Option 118 (RFC 3011, subnet selection) as bytes: "code 118, Len 4, four address bytes".
use Rattle.std.specs.Prelude.{ℕ, ◌+◌, List, ◌∷◌, Bool, cond, ◌&&◌, length, get_or, eqb, leb}
use Rattle.option.specs.Reading.{four}
use Rattle.option.specs.Writing.{four_bytes, Writing, refused_with, written}

-- How many bytes it has.
abbrev pub selection_size : ℕ
selection_size = 6

-- A refusal with its number, or the address.
pub data Selected : Type 0 where
  refused : ℕ → Selected
  address : ℕ → Selected

-- Row 6: "under 2 bytes, other code, Len wrong, or .. (118) Len not 4".
unfoldable pub selection? : List ℕ → Bool
selection? s =
    leb 2 (length s)
    && (eqb (get_or s 0 0) 118
    && (eqb (get_or s 1 0 + 2) (length s)
    && eqb (get_or s 1 0) 4))

unfoldable pub read_selection : List ℕ → Selected
read_selection s = cond (selection? s) (address (four s 2)) (refused 6)

unfoldable pub selection_bytes : ℕ → List ℕ
selection_bytes a = 118 ∷ 4 ∷ four_bytes a

-- Row 14: "more than the buffer holds".
unfoldable pub write_selection : ℕ → ℕ → Writing
write_selection capacity a = cond (leb (length (selection_bytes a)) capacity) (written (selection_bytes a)) (refused_with 14)
