-- What the private functions promise each other when leases are removed. Nothing here stands in the promise of a public one.
use Rattle.std.specs.Prelude.{ℕ, ◌+◌, ◌*◌, ◌≤◌, ◌≡◌, List, ◌++◌, length, take}
use Rattle.lists.specs.Lists.{concat_map}
use Rattle.table.specs.declared.Lease.{Lease}
use Rattle.table.specs.Table.{present}
use Rattle.image.specs.Image.{lease_size, lease_record}
use Rattle.image_records.specs.Records.{Records}

-- What has become of the buffer `l` after its first i leases: those of them that are present, `kept` in all, stand first. None before the place `first` has
-- expired.
unfoldable pub Closed : List ℕ → ℕ → ℕ → ℕ → List ℕ → ℕ → ℕ → Type 0
Closed l from first time image kept i =
    (xs : List Lease) → Records l from xs → i ≤ length xs → present time (take first xs) ≡ take first xs
    → (kept ≡ length (present time (take i xs))) × (take (from + lease_size * kept) image ≡ take from l ++ concat_map lease_record (present time (take i xs)))
