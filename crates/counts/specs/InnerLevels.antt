-- The counts told from the lengths and networks of the leases alone. A lease opens at the length of the largest prefix of its pool that is around it (or is it)
-- and holds no lease before it: the pool's own length for the first lease of a pool, for each later one the length after the bits that its network has in common
-- with the one before it. In a pool as many prefixes of length l + 1 lie under a split one as leases opened at lengths up to l, less those of a length up to l.
use Rattle.std.specs.Prelude.{ℕ, zero, suc, ◌+◌, ◌-◌, ◌≤◌, cond, List, [], ◌∷◌, map, leb, ltb, eqb}
use Rattle.std.specs.Int.Bits.{bit_xor}
use Rattle.std.specs.Int.Count.{count_leading_zeros}
use Rattle.lists.specs.Lists.{All, Any, Pairwise}
use Rattle.prefix.specs.declared.Prefix.{Prefix}
use Rattle.prefix.specs.Prefixes.{longest, end, Aligned, Inside}
use Rattle.free_space.specs.Serving.{one?, Before}
use Rattle.table.specs.Table.{shortest_pool}
use Rattle.table.proofs.Ascending.{Ascending}
use Rattle.counts.specs.Counts.{counted_lengths}

-- How many bits two networks have in common, from the first on: there are that many prefixes around both, and one more.
unfoldable pub common_bits : ℕ → ℕ → ℕ
common_bits a b = count_leading_zeros 32 (bit_xor a b)

-- How many of the numbers are l; how many are l or less.
abbrev pub equal_to : ℕ → List ℕ → ℕ
equal_to l [] = 0
equal_to l (k ∷ ks) = one? (eqb k l) + equal_to l ks

abbrev pub up_to : ℕ → List ℕ → ℕ
up_to l [] = 0
up_to l (k ∷ ks) = one? (leb k l) + up_to l ks

-- Where leases open, after a lease at this network.
abbrev pub openings_after : ℕ → List Prefix → List ℕ
openings_after network [] = []
openings_after network (x ∷ xs) = (common_bits network x.network + 1) ∷ openings_after x.network xs

-- Where the leases of a pool open.
abbrev pub openings : Prefix → List Prefix → List ℕ
openings p [] = []
openings p (x ∷ xs) = p.length ∷ openings_after x.network xs

abbrev pub lengths : List Prefix → List ℕ
lengths xs = map (λ x. x.length) xs

-- How many whole free prefixes of the length after l there are in a pool of length `pool` whose leases open at `opened` and have lengths `closed`.
abbrev pub free_after : ℕ → List ℕ → List ℕ → ℕ → ℕ
free_after pool opened closed l = one? (eqb pool (suc l)) + up_to l opened - (equal_to (suc l) opened + up_to l closed)

-- k of them.
unfoldable pub frees_after : ℕ → List ℕ → List ℕ → ℕ → ℕ → List ℕ
frees_after pool opened closed l zero = []
frees_after pool opened closed l (suc k) = free_after pool opened closed l ∷ frees_after pool opened closed (suc l) k

-- The row of a pool, by levels.
abbrev pub level_row : List Prefix → Prefix → List ℕ
level_row inside p = frees_after p.length (openings p inside) (lengths inside) (shortest_pool - 1) counted_lengths

-- The leases that start before an address, and those from the first other one on.
unfoldable pub start_in : ℕ → List Prefix → List Prefix
start_in stop [] = []
start_in stop (x ∷ xs) = let rest = start_in stop xs in cond (ltb x.network stop) (x ∷ rest) []

unfoldable pub start_past : ℕ → List Prefix → List Prefix
start_past stop [] = []
start_past stop (x ∷ xs) = let rest = start_past stop xs in cond (ltb x.network stop) rest (x ∷ xs)

-- The rows of pools that ascend.
unfoldable pub level_rows : List Prefix → List Prefix → List (List ℕ)
level_rows [] xs = []
level_rows (p ∷ ps) xs = let rest = level_rows ps (start_past (end p) xs) in level_row (start_in (end p) xs) p ∷ rest

-- A block inside p.
pub record Lies (p x : Prefix) : Type 0 where
  pub inside : Inside x p
  pub aligned : Aligned x
  pub long : x.length ≤ 32

-- A block inside one of the pools.
pub record Rooted (ps : List Prefix) (x : Prefix) : Type 0 where
  pub pooled : Any (Inside x) ps
  pub aligned : Aligned x
  pub long : x.length ≤ 32

-- Pools and leases as a sound table has them, from an address on.
pub record Laid (from : ℕ) (ps xs : List Prefix) : Type 0 where
  pub lengths : All (λ p. (shortest_pool ≤ p.length) × (p.length ≤ longest)) ps
  pub aligned : All Aligned ps
  pub pools-ascend : Ascending (λ p. p) from ps
  pub leases-ascend : Pairwise Before xs
  pub rooted : All (Rooted ps) xs
