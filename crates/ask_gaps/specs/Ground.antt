-- The ground of an image: pools and leases of it in place.
use Rattle.std.specs.Prelude.{ℕ, ◌+◌, ◌<◌, ◌≡◌, List, map, length, drop, get_or}
use Rattle.image.specs.Image.{head_size}
use Rattle.prefix.specs.declared.Prefix.{Prefix}
use Rattle.prefix.specs.Prefixes.{prefix}
use Rattle.table.specs.declared.Lease.{Lease}
use Rattle.table.specs.Table.{prefix_of, present}
use Rattle.image_check.specs.Inner.{nth_pool}
use Rattle.image_records.specs.Records.{Records}

-- The prefixes of those leases from the i-th on that are present: "lines with end at or before now count as absent".
abbrev pub ahead : ℕ → ℕ → List Lease → List Prefix
ahead time i xs = map prefix_of (present time (drop i xs))

-- The pools that stand in an image from the place `pool` on, after its head, and the leases whose records stand from the byte `from` on.
pub record Ground (image : List ℕ) (pool pools from leases : ℕ) (ps : List Prefix) (xs : List Lease) : Type 0 where
  pub pools-are : pools ≡ length ps
  pub pool-at : (k : ℕ) → k < length ps → nth_pool (drop head_size image) (pool + k) ≡ get_or ps k (prefix 0 0)
  pub leases-are : leases ≡ length xs
  pub leases-at : Records image from xs
