-- What the code counts: how many leases of a pool open at each length, and how many have each length.
use Rattle.std.specs.Prelude.{ℕ, zero, suc, ◌+◌, ◌-◌, ◌*◌, ◌≤◌, ◌<◌, ◌≡◌, List, [], ◌∷◌, length, drop, get_or, set, replicate, eqb}
use Rattle.lists.specs.Lists.{All, Pairwise}
use Rattle.prefix.specs.declared.Prefix.{Prefix}
use Rattle.prefix.specs.Prefixes.{longest, end, Aligned}
use Rattle.free_space.specs.Serving.{one?, Before}
use Rattle.table.specs.Table.{lease_slots, shortest_pool, prefix_of}
use Rattle.image.specs.Image.{head_size, lease_size}
use Rattle.image.specs.Reading.{lease_in}
use Rattle.image_check.specs.Inner.{nth_pool}
use Rattle.counts.specs.Counts.{counted_lengths}
use Rattle.counts.specs.InnerLevels.{Lies, openings, lengths, level_row, start_in, start_past}
use Rattle.image_counts.specs.declared.Tally.{Tally}

-- IN PLACE

-- The prefix of the i-th lease; k of them, from the i-th on; and those that are left of n.
abbrev pub lease_at : List ℕ → ℕ → ℕ → Prefix
lease_at image from i = prefix_of (lease_in (drop (from + lease_size * i) image))

unfoldable pub leases_at : List ℕ → ℕ → ℕ → ℕ → List Prefix
leases_at image from i zero = []
leases_at image from i (suc k) = lease_at image from i ∷ leases_at image from (suc i) k

abbrev pub ahead : List ℕ → ℕ → ℕ → ℕ → List Prefix
ahead image from n i = leases_at image from i (n - i)

-- The pools, k of them from the i-th on.
unfoldable pub pools_at : List ℕ → ℕ → ℕ → List Prefix
pools_at image i zero = []
pools_at image i (suc k) = nth_pool (drop head_size image) i ∷ pools_at image (suc i) k

-- The leases in place have no length above 32.
abbrev pub Short : List ℕ → ℕ → ℕ → Type 0
Short image from n = (i : ℕ) → i < n → (lease_at image from i).length ≤ 32

-- COUNTED

-- As LEVELS in the code: a lease can open at the lengths 0 to 33.
abbrev pub open_lengths : ℕ
open_lengths = 34

abbrev pub zeros : List ℕ
zeros = replicate open_lengths 0

-- No place of a list holds more than there are leases.
abbrev pub Few : List ℕ → Type 0
Few l = (k : ℕ) → get_or l k 0 ≤ lease_slots

-- Numbers counted into a list, one after another.
unfoldable pub tally : List ℕ → List ℕ → List ℕ
tally l [] = l
tally l (k ∷ ks) = tally (set l k (get_or l k 0 + 1)) ks

-- Two lists of lengths, one behind the other: k places of their sum, from the j-th on, and the whole sum.
unfoldable pub sums_on : List ℕ → ℕ → ℕ → List ℕ
sums_on sides j zero = []
sums_on sides j (suc k) = (get_or sides j 0 + get_or sides (open_lengths + j) 0) ∷ sums_on sides (suc j) k

abbrev pub both_of : List ℕ → List ℕ
both_of sides = sums_on sides 0 open_lengths

-- The leases of a pool, from the place `at` on, are counted.
pub record Tallied (image : List ℕ) (from n : ℕ) (p : Prefix) (at : ℕ) (r : Tally) : Type 0 where
  pub within : r.next ≤ n
  pub few-opened : Few r.opened
  pub few-closed : Few (both_of r.sides)
  pub opened : r.opened ≡ tally zeros (openings p (start_in (end p) (ahead image from n at)))
  pub closed : both_of r.sides ≡ tally zeros (lengths (start_in (end p) (ahead image from n at)))
  pub left : ahead image from n r.next ≡ start_past (end p) (ahead image from n at)

-- The sum of a list up to a place.
unfoldable pub total : ℕ → List ℕ → ℕ
total zero l = get_or l 0 0
total (suc k) l = total k l + get_or l (suc k) 0

-- The free ones of the length after l, and those of k lengths.
abbrev pub free_on : ℕ → List ℕ → List ℕ → ℕ → ℕ
free_on pool opened closed l = one? (eqb pool (suc l)) + total l opened - (get_or opened (suc l) 0 + total l closed)

unfoldable pub frees_on : ℕ → List ℕ → List ℕ → ℕ → ℕ → List ℕ
frees_on pool opened closed l zero = []
frees_on pool opened closed l (suc k) = free_on pool opened closed l ∷ frees_on pool opened closed (suc l) k

-- A POOL

abbrev pub no_row : List ℕ
no_row = replicate counted_lengths 0

-- What the leases of a pool have to be for its row.
pub record Ready (image : List ℕ) (from n : ℕ) (p : Prefix) (at : ℕ) : Type 0 where
  pub room : from + lease_size * n ≤ length image
  pub few : n ≤ lease_slots
  pub within : at ≤ n
  pub short : Short image from n
  pub from-shortest : shortest_pool ≤ p.length
  pub to-longest : p.length ≤ longest
  pub aligned : Aligned p
  pub lie : All (Lies p) (start_in (end p) (ahead image from n at))
  pub ascend : Pairwise Before (start_in (end p) (ahead image from n at))

-- Its row, and the place of the lease after its leases.
pub record Counted (image : List ℕ) (from n : ℕ) (p : Prefix) (at next : ℕ) (row : List ℕ) : Type 0 where
  pub within : next ≤ n
  pub row_is : row ≡ level_row (start_in (end p) (ahead image from n at)) p
  pub left : ahead image from n next ≡ start_past (end p) (ahead image from n at)
