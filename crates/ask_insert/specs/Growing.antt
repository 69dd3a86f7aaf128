-- What an ask finds that has granted leases, and what it leaves: of the image, and of the figures sheet beside it.
use Rattle.std.specs.Prelude.{ℕ, ◌-◌, ◌≤◌, ◌≡◌, true, List, length}
use Rattle.std.proofs.Math.Option.{Option}
use Rattle.table.specs.declared.{Lease.Lease, LeaseTable.LeaseTable}
use Rattle.table.specs.Table.{lease_slots, present, store}
use Rattle.table.specs.Table.{sound as sound_of}
use Rattle.image.specs.Image.{used_leases}
use Rattle.image_records.specs.Records.{Records, Ascending}
use Rattle.figures.specs.declared.FigureRow.{FigureRow}
use Rattle.figures.specs.Figures.{matches?, followed}
use Rattle.image_figures.specs.Sheets.{sheet_of}
use Rattle.ledger.specs.Ledger.{add_all}
use Rattle.call_rows.specs.Admission.{left}

-- The leases of a sound table stand as n records from `from` on, so many of them expired, and the sheet is that of rows that match them.
pub record Standing (image sheet : List ℕ) (from n expired time : ℕ) (t : LeaseTable) (rows : List FigureRow) : Type 0 where
  pub sound : sound_of t ≡ true
  pub matched : matches? t.leases rows ≡ true
  pub whole : sheet ≡ sheet_of rows
  pub records : Records image from (used_leases t)
  pub leases : n ≡ length (used_leases t)
  pub none-expired : expired ≡ 0 → present time (used_leases t) ≡ used_leases t
  pub present-many : n - expired ≡ length (present time (used_leases t))

-- The leases of a table once those offered are put among the present ones.
abbrev pub grown : LeaseTable → ℕ → List (Option Lease) → List Lease
grown t time os = add_all os (present time (used_leases t))

-- What is offered has its own networks and fits the table.
pub record Fresh (t : LeaseTable) (time : ℕ) (os : List (Option Lease)) : Type 0 where
  pub ascends : Ascending (grown t time os)
  pub fits : length (grown t time os) ≤ lease_slots

-- The records of those leases are left, and the sheet of the rows that follow them.
pub record Grown (image : List ℕ) (from n time : ℕ) (t : LeaseTable) (rows : List FigureRow) (os : List (Option Lease)) (after sheet : List ℕ) : Type 0 where
  pub after_is : after ≡ left image from n (grown t time os) time
  pub sheet-is : sheet ≡ sheet_of (followed time t rows (store t time (grown t time os)))
