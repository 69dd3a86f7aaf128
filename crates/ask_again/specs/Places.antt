-- The leases that requests get again, by their places among the records of an image.
use Rattle.std.specs.Prelude.{ℕ, ◌+◌, ◌*◌, ◌≤◌, ◌<◌, ◌≡◌, not, cond, List, map, eqb, length, take, get_or}
use Rattle.std.proofs.Math.Option.{Option, none, some}
use Rattle.lists.specs.Lists.{filter}
use Rattle.table.specs.declared.{Lease.Lease, LeaseTable.LeaseTable}
use Rattle.table.specs.Table.{no_lease}
use Rattle.image.specs.Image.{lease_size}
use Rattle.option.specs.Contents.{Request}
use Rattle.option_scan.specs.Scanned.{flag_of}

-- The place of a request that gets no lease again, as NONE in the code.
abbrev pub no_place : ℕ
no_place = 65535

-- A place is one of n, if it is one.
abbrev pub Within : ℕ → ℕ → Type 0
Within n place = (place ≡ no_place → ⊥) → place < n

-- Its record ends within a buffer of so many bytes, where records stand from `from` on.
abbrev pub InBuffer : ℕ → ℕ → ℕ → Type 0
InBuffer from bytes place = (place ≡ no_place → ⊥) → from + lease_size * (place + 1) ≤ bytes

-- The lease at a place, and those that requests get by their places.
abbrev pub lease_at : List Lease → ℕ → Option Lease
lease_at us place = cond (eqb place no_place) none (some (get_or us place no_lease))

abbrev pub given_in : List Lease → List ℕ → List (Option Lease)
given_in us places = map (lease_at us) places

-- How many of the first n numbers of a column are not this one.
abbrev pub others_in : ℕ → List ℕ → ℕ → ℕ
others_in one column n = length (filter (λ m. not (eqb m one)) (take n column))

-- The h of requests, as a column has it.
abbrev pub flags_of : List Request → List ℕ
flags_of rs = map (λ r. flag_of r.h) rs

-- Two columns have the lengths and the h of these requests, and the table's default length stands for 0.
pub record Asks (t : LeaseTable) (rs : List Request) (default_length : ℕ) (asked_lengths asked_h : List ℕ) : Type 0 where
  pub by_default : default_length ≡ t.default_length
  pub lengths : asked_lengths ≡ map (λ r. r.length) rs
  pub flags : asked_h ≡ flags_of rs
