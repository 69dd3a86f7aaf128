-- HOW MUCH IS LEFT (document 02, M-102): "Keep a count of whole free blocks for each root and each length 8 to 30, eight rows of twenty-three, in the open
-- book."
use Rattle.std.specs.Prelude.{ℕ, zero, suc, ◌+◌, ◌-◌, Bool, true, false, cond, ◌&&◌, List, [], ◌∷◌, ◌++◌, map, length, get_or, replicate, leb, eqb}
use Rattle.lists.specs.Lists.{and}
use Rattle.prefix.specs.declared.Prefix.{Prefix}
use Rattle.prefix.specs.Prefixes.{longest}
use Rattle.free_space.specs.Grant.{walk}
use Rattle.free_space.specs.Serving.{number}
use Rattle.table.specs.declared.LeaseTable.{LeaseTable}
use Rattle.table.specs.Table.{pool_slots, shortest_pool, prefix_of, pools_of, present}

-- SIZES, as LENGTHS in the code: the lengths 8 to 30.
abbrev pub counted_lengths : ℕ
counted_lengths = longest + 1 - shortest_pool

-- k lengths from this one on.
unfoldable pub lengths_from : ℕ → ℕ → List ℕ
lengths_from l zero = []
lengths_from l (suc k) = l ∷ lengths_from (suc l) k

-- The row of a pool: how many whole free blocks of each length "a fresh walk would find" in it. (`walk` of crate `free_space` lists exactly the whole ones.)
unfoldable pub count_row : List Prefix → Prefix → List ℕ
count_row leases p = map (λ l. number l (walk leases (32 - p.length) p)) (lengths_from shortest_pool counted_lengths)

-- "eight rows of twenty-three": a row for each pool, in their order, and zeros for the slots of unused ones; "the book as last written".
unfoldable pub counts_of : LeaseTable → List (List ℕ)
counts_of t =
    map (count_row (map prefix_of (present t.last t.leases))) (pools_of t)
    ++ replicate (pool_slots - length (pools_of t)) (replicate counted_lengths 0)

-- Whether counts are the same, rows of unused pools included.
abbrev pub same_row? : List ℕ → List ℕ → Bool
same_row? [] [] = true
same_row? [] (y ∷ ys) = false
same_row? (x ∷ xs) [] = false
same_row? (x ∷ xs) (y ∷ ys) = eqb x y && same_row? xs ys

unfoldable pub same_counts? : List (List ℕ) → List (List ℕ) → Bool
same_counts? [] [] = true
same_counts? [] (y ∷ ys) = false
same_counts? (x ∷ xs) [] = false
same_counts? (x ∷ xs) (y ∷ ys) = same_row? x y && same_counts? xs ys

-- "A query for a length sums over the roots, .. and answers 0 outside 8 to 30"
abbrev pub summed : ℕ → List (List ℕ) → ℕ
summed j [] = 0
summed j (row ∷ rows) = get_or row j 0 + summed j rows

unfoldable pub sum_at : List (List ℕ) → ℕ → ℕ
sum_at counts len = cond (and (leb shortest_pool len ∷ leb len longest ∷ [])) (summed (len - shortest_pool) counts) 0

-- All of them together.
abbrev pub row_total : List ℕ → ℕ
row_total [] = 0
row_total (n ∷ row) = n + row_total row

abbrev pub total : List (List ℕ) → ℕ
total [] = 0
total (row ∷ rows) = row_total row + total rows
