-- Text put into a buffer.
use Rattle.std.specs.Prelude.{ℕ, zero, suc, ◌+◌, ◌-◌, ◌/◌, ◌^◌, ◌≤◌, ◌<◌, ◌≡◌, List, [], ◌∷◌, ◌++◌, length}
use Rattle.lists.specs.Put.{put}
use Rattle.text.specs.Decimal.{digit}

-- The last k digits of a number; and k is how many it has.
abbrev pub lowest_digits : ℕ → ℕ → List ℕ
lowest_digits zero n = []
lowest_digits (suc k) n = lowest_digits k (n / 10) ++ (digit n ∷ [])

abbrev pub Width : ℕ → ℕ → Type 0
Width n k = (1 ≤ k) × (n < 10 ^ k) × (10 ^ (k - 1) ≤ n + (2 - k))

-- Text put into a buffer from a place on, and the place after it.
pub record Wrote (old : List ℕ) (at : ℕ) (text new : List ℕ) (next : ℕ) : Type 0 where
  pub bytes : new ≡ put old at text
  pub place : next ≡ at + length text

-- Room for a number of any size, and the number put there.
abbrev pub RoomFor : ℕ → List ℕ → ℕ → Type 0
RoomFor n out at = (k : ℕ) → Width n k → at + k ≤ length out

pub record WroteNumber (n : ℕ) (old : List ℕ) (at : ℕ) (new : List ℕ) (next : ℕ) : Type 0 where
  pub size : ℕ
  pub width : Width n size
  pub wrote : Wrote old at (lowest_digits size n) new next
