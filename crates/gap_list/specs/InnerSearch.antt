-- What the private functions of the search and of a split promise each other.
use Rattle.std.specs.Prelude.{ℕ, suc, ◌+◌, ◌-◌, ◌%◌, ◌≤◌, ◌<◌, ◌≡◌, cond, List, ◌++◌, ltb, length, take, drop, Some, None}
use Rattle.std.specs.Prelude.{Option as Optional}
use Rattle.std.proofs.Math.Option.{Option, some}
use Rattle.std.specs.Int.Bits.{bit_and, bit_or}
use Rattle.prefix.specs.declared.Prefix.{Prefix}
use Rattle.prefix.specs.Prefixes.{size, prefix}
use Rattle.free_space.specs.Scan.{levels, in_gap}
use Rattle.gap_list.specs.declared.{Best.Best, Ends.Ends}
use Rattle.gap_list.specs.Gaps.{fit_from}
use Rattle.gap_list.specs.Columns.{held}

-- The elements with the one at i twice.
abbrev pub doubled : {A : Type 0} → List A → ℕ → List A
doubled xs i = take (suc i) xs ++ drop i xs

-- A gap, by its first and its last address, has nothing of a size, of which `mask` is one less.
abbrev pub Passed : ℕ → ℕ → ℕ → Type 0
Passed first last mask = (l : ℕ) (best : Option Prefix) → size l ≡ mask + 1 → in_gap l best first (last + 1) ≡ best

-- From one place on the gaps of a buffer have what they have from a later one on, of a size, of which `mask` is one less.
pub record PassedTo (es : List Ends) (mask from to : ℕ) : Type 0 where
  pub later : from ≤ to
  pub rest : (l : ℕ) (best : Option Prefix) → size l ≡ mask + 1 → fit_from l best (held (drop from es)) ≡ fit_from l best (held (drop to es))

-- The gaps from `from` on have nothing of a size up to the next large one, or up to the last.
abbrev pub NextLarge : List Ends → ℕ → ℕ → Optional ℕ → Type 0
NextLarge es mask from (Some r) = (r < length es) × PassedTo es mask from r
NextLarge es mask from None = PassedTo es mask from (length es)

-- An address cut to multiples of a size, of which `mask` is one less.
abbrev pub cut_up : ℕ → ℕ → ℕ
cut_up mask a = a + mask - bit_and (a + mask) mask

abbrev pub cut_down : ℕ → ℕ → ℕ
cut_down mask b = b - bit_and b mask

-- The bits of both ends of a range; none where nothing is between them.
abbrev pub bits_of : ℕ → ℕ → ℕ
bits_of low high = cond (ltb low high) (bit_or low high) 0

-- What is found at an end of the range from `low` to `high`: the best prefix, where one is better than the best so far, which has length `stop`.
pub record BestFound (low high stop l : ℕ) (best : Option Prefix) (r : Best) : Type 0 where
  pub length : ℕ
  pub sized : r.size ≡ size length
  pub better : stop < length
  pub short : length ≤ l
  pub fits : levels low high stop (l - stop) best ≡ some (prefix r.network length)
  pub inside : (low ≤ r.network) × (r.network + size l ≤ high)

abbrev pub AtEnd : ℕ → ℕ → Best → Type 0
AtEnd low high r =
    (stop l : ℕ) (best : Option Prefix) → l ≤ 32 → low % size l ≡ 0 → high % size l ≡ 0 → (bit_or low high % size stop ≡ 0 → ⊥) → BestFound low high stop l best r
