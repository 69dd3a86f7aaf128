-- Fields of a record: numbers of two and of four bytes, and records read one after another.
use Rattle.std.specs.Prelude.{ℕ, zero, suc, ◌+◌, ◌*◌, List, [], ◌∷◌, drop, get_or}
use Rattle.std.proofs.Math.Option.{Option, none, some}

-- The numbers that the two and the four bytes from a position on spell.
unfoldable pub number16 : List ℕ → ℕ → ℕ
number16 s at = get_or s at 0 + 256 * get_or s (at + 1) 0

unfoldable pub number32 : List ℕ → ℕ → ℕ
number32 s at = get_or s at 0 + 256 * get_or s (at + 1) 0 + 65536 * get_or s (at + 2) 0 + 16777216 * get_or s (at + 3) 0

-- What was read from the front of some bytes, and the bytes after it.
pub record Run (A : Type 0) : Type 0 where
  pub items : List A
  pub rest : List ℕ

abbrev pub before : {A : Type 0} → A → Run A → Run A
before x r = record { items = x ∷ r.items; rest = r.rest }

abbrev pub on_item : {A : Type 0} → Option A → List ℕ → Run A → Run A
on_item none s later = record { items = []; rest = s }
on_item (some x) s later = before x later

-- The records of one size that stand at the front, as far as `read` finds one, and at most so many.
unfoldable pub records : {A : Type 0} → (List ℕ → Option A) → ℕ → ℕ → List ℕ → Run A
records read size zero s = record { items = []; rest = s }
records read size (suc limit) s = let later = records read size limit (drop size s) in on_item (read s) s later
