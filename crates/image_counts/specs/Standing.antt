-- The image of a sound table at the front of a buffer.
use Rattle.std.specs.Prelude.{ℕ, ◌≡◌, true, List, length, take}
use Rattle.table.specs.declared.LeaseTable.{LeaseTable}
use Rattle.table.specs.Table.{sound}
use Rattle.image.specs.Image.{used_pools, used_leases, image_of}

-- It is the image of this table, which has so many pools and leases.
pub record Stands (t : LeaseTable) (image : List ℕ) (pools leases : ℕ) : Type 0 where
  pub sound-table : sound t ≡ true
  pub image-is : image_of t ≡ take (length (image_of t)) image
  pub pools-are : pools ≡ length (used_pools t)
  pub leases-are : leases ≡ length (used_leases t)

-- It is the image of some table.
pub record SomeTable (image : List ℕ) (pools leases : ℕ) : Type 0 where
  pub table : LeaseTable
  pub stands : Stands table image pools leases
