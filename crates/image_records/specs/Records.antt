-- Leases that stand as records in a buffer, one after another.
use Rattle.std.specs.Prelude.{ℕ, ◌+◌, ◌*◌, ◌≤◌, ◌<◌, ◌≡◌, List, ◌++◌, length, get_or, drop}
use Rattle.lists.specs.Lists.{Pairwise, concat_map}
use Rattle.table.specs.declared.Lease.{Lease}
use Rattle.table.specs.Table.{no_lease}
use Rattle.image.specs.Image.{lease_size, lease_record}

-- From `from` on the buffer holds the records of these leases.
unfoldable pub Records : List ℕ → ℕ → List Lease → Type 0
Records l from xs = drop from l ≡ concat_map lease_record xs ++ drop (from + lease_size * length xs) l

-- "ascend by network": no two leases have the same.
unfoldable pub Ascending : List Lease → Type 0
Ascending xs = Pairwise (λ x y. x.network < y.network) xs

-- The leases that have expired all stand from the place `first` up to `last`.
abbrev pub ExpiredIn : ℕ → ℕ → ℕ → List Lease → Type 0
ExpiredIn time first last xs = (k : ℕ) → k < length xs → (get_or xs k no_lease).expires ≤ time → (first ≤ k) × (k < last)
