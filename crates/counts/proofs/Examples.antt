-- Rows of small pools: an empty one, one that is one lease, and 10.0.0.0/24 with leases 10.0.0.64/26 and 10.0.0.128/30.
-- Assumes nothing.
use mathlib.Core.Path.{◌≡◌, refl}
use mathlib.Core.List.{List, [], ◌∷◌, map}
use Prim.Native.Nat.{ℕ}
use lib.Count.{count_leading_zeros}
use Rattle.prefix.specs.declared.Prefix.{Prefix}
use Rattle.prefix.specs.Prefixes.{prefix}
use Rattle.counts.specs.Counts.{lengths_from, count_row}
use Rattle.counts.specs.InnerLevels.{common_bits, level_row, frees_after}

abbrev pool : Prefix
pool = prefix 0x0a000000 24

abbrev leased : List (List Prefix)
leased = [] ∷ (pool ∷ []) ∷ (prefix 0x0a000040 26 ∷ prefix 0x0a000080 30 ∷ []) ∷ []

abbrev rows : List (List ℕ)
rows =
    (0 ∷ 0 ∷ 0 ∷ 0 ∷ 0 ∷ 0 ∷ 0 ∷ 0 ∷ 0 ∷ 0 ∷ 0 ∷ 0 ∷ 0 ∷ 0 ∷ 0 ∷ 0 ∷ 1 ∷ 0 ∷ 0 ∷ 0 ∷ 0 ∷ 0 ∷ 0 ∷ [])
    ∷ (0 ∷ 0 ∷ 0 ∷ 0 ∷ 0 ∷ 0 ∷ 0 ∷ 0 ∷ 0 ∷ 0 ∷ 0 ∷ 0 ∷ 0 ∷ 0 ∷ 0 ∷ 0 ∷ 0 ∷ 0 ∷ 0 ∷ 0 ∷ 0 ∷ 0 ∷ 0 ∷ [])
    ∷ (0 ∷ 0 ∷ 0 ∷ 0 ∷ 0 ∷ 0 ∷ 0 ∷ 0 ∷ 0 ∷ 0 ∷ 0 ∷ 0 ∷ 0 ∷ 0 ∷ 0 ∷ 0 ∷ 0 ∷ 0 ∷ 2 ∷ 1 ∷ 1 ∷ 1 ∷ 1 ∷ [])
    ∷ []

by-walk : map (λ ls. count_row ls pool) leased ≡ rows
unfolding count_row lengths_from
by-walk = refl

by-levels : map (λ ls. level_row ls pool) leased ≡ rows
unfolding frees_after common_bits count_leading_zeros
by-levels = refl
