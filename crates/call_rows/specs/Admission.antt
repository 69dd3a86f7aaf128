-- What a call goes by that works on an image in place: the rows up to the option, what is known where none of them applies, and what an accepted call
-- leaves of the leases' records.
use Rattle.std.specs.Prelude.{ℕ, ◌+◌, ◌-◌, ◌*◌, ◌≤◌, ◌≡◌, Bool, true, false, cond, List, ◌∷◌, ◌++◌, length, take, replicate, leb, eqb, Option as Maybe, Some, None, Result, Ok, Err, MatchResult}
use Rattle.std.proofs.Math.Option.{Option, none, some}
use Rattle.lists.specs.Lists.{filter, concat_map}
use Rattle.lists.specs.Put.{put}
use Rattle.option.specs.Reading.{four, read_option}
use Rattle.option.specs.Selection.{selection?}
use Rattle.option.specs.Values as values
use Rattle.option.specs.Contents.{suboptions, first_name}
use Rattle.option_scan.specs.declared.Contents.{Contents}
use Rattle.option_scan.specs.Scanned.{Columns, ScannedOf, NamedIn}
use Rattle.table.specs.declared.Lease.{Lease}
use Rattle.table.specs.Table.{pool_slots, lease_slots, latest, present}
use Rattle.table.specs.Table.{sound as sound_of}
use Rattle.image.specs.Image.{le32, full_image, head_size, pool_size, lease_size, lease_record, used_pools, used_leases, image_of}
use Rattle.image.specs.Reading.{last_at}
use Rattle.image_check.specs.declared.ImageSummary.{ImageSummary}
use Rattle.image_records.specs.Records.{Records, Ascending}
use Rattle.image_figures.specs.Sheets.{figures_size, sheet_of}
use Rattle.ledger.specs.declared.Refusal.{Refusal}
use Rattle.ledger.specs.declared.Refusal.TheVariants.{NotTheOption, BadFraming, BadField}
use Rattle.option.specs.declared.{OptionFault.OptionFault, Fault.Fault}
use Rattle.option.specs.declared.OptionFault.TheVariants as fault
use Rattle.option.specs.declared.Fault.TheVariants.{Framing, Field}
use Rattle.ledger.specs.Answers.{refusal_number, bad_place}
use Rattle.ledger.specs.Ledger.{Row, first_of, table_rows, state_rows, time_rows}
use Rattle.ledger.specs.FiguresKept.{Matched}
use Rattle.call_spec.specs.ImageCalls.{Lent, table_in, state_in}

-- ADMISSION

-- The rows up to the option, of a call with this client whose reply buffer is too short or not; row 15 only if it has the figures sheet. A call that has no
-- reply buffer, or no client, passes what no row refuses.
abbrev pub admission_rows : Bool → Bool → Lent → ℕ → ℕ → List Row
admission_rows sheet short h now client = (1, short) ∷ (cond sheet (state_rows (state_in h)) (table_rows (state_in h)) ++ ((2, eqb client 0) ∷ time_rows (state_in h) now))

-- Where the leases of an image begin: after its head and its pools.
abbrev pub leases_from : ImageSummary → ℕ
leases_from summary = head_size + pool_size * summary.pools

-- What is known of the figures sheet that has passed row 15: it has its size, and is the sheet of its rows.
pub record SheetIn (h : Lent) : Type 0 where
  pub matched : Matched (state_in h)
  pub size : length h.figures ≡ figures_size
  pub whole : h.figures ≡ sheet_of (state_in h).rows

-- What is known of the buffer, of the table in it, and of the sheet, where none of the rows applies.
pub record Admitted (sheet : Bool) (h : Lent) (now client : ℕ) (summary : ImageSummary) : Type 0 where
  pub sound : sound_of (table_in h) ≡ true
  pub some-client : eqb client 0 ≡ false
  pub since : (table_in h).last ≤ now
  pub early : now ≤ latest
  pub room : full_image ≤ length h.image
  pub within : h.bytes ≤ length h.image
  pub image : image_of (table_in h) ≡ take h.bytes h.image
  pub term : summary.term ≡ (table_in h).term
  pub default : summary.default_length ≡ (table_in h).default_length
  pub pools : summary.pools ≡ length (used_pools (table_in h))
  pub leases : summary.leases ≡ length (used_leases (table_in h))
  pub expired : summary.expired ≡ length (filter (λ x. leb x.expires now) (used_leases (table_in h)))
  pub size : leases_from summary + lease_size * summary.leases ≡ h.bytes
  pub full : h.bytes ≤ full_image
  pub few-pools : summary.pools ≤ pool_slots
  pub few-leases : summary.leases ≤ lease_slots
  pub records : Records h.image (leases_from summary) (used_leases (table_in h))
  pub ascending : Ascending (used_leases (table_in h))
  pub present-used : present now (table_in h).leases ≡ present now (used_leases (table_in h))
  pub none-expired : summary.expired ≡ 0 → present now (used_leases (table_in h)) ≡ used_leases (table_in h)
  pub sheet-in : sheet ≡ true → SheetIn h

-- What the admission answers: the first of these rows that applies, none of which has a place, or what the check says of the image.
abbrev pub Admits : Bool → Bool → Lent → ℕ → ℕ → Result ImageSummary Refusal → Type 0
Admits sheet short h now client r =
    let row = first_of (admission_rows sheet short h now client) in
    MatchResult r (λ summary. (row ≡ none) × Admitted sheet h now client summary) (λ e. (row ≡ some (refusal_number e)) × (bad_place e ≡ 0))

-- THE OPTIONS

-- Row 6 of option 118, and where that does not apply its address, if the message carries one.
abbrev pub selection_read : Option (List ℕ) → Result (Maybe ℕ) Refusal
selection_read none = Ok None
selection_read (some s) = cond (selection? s) (Ok (Some (four s 2))) (Err NotTheOption)

-- Rows 6, 7 and 16, as the reader finds them.
abbrev pub bad_suboption : Fault → ℕ → Refusal
bad_suboption Framing place = BadFraming place
bad_suboption Field place = BadField place

abbrev pub refusal_of : OptionFault → Refusal
refusal_of fault.NotTheOption = NotTheOption
refusal_of (fault.BadSuboption bad) = bad_suboption bad.fault bad.place

-- What is read of an option 220 that is accepted.
pub record ReadOption (option : List ℕ) (m : Contents) (k : Columns) : Type 0 where
  pub accepted : read_option option ≡ values.accepted (suboptions (read_option option))
  pub holds : ScannedOf m k (suboptions (read_option option))
  pub named : NamedIn option m (first_name (suboptions (read_option option)))

-- What the reader answers: that, or the refusal and its place.
abbrev pub ReadsOption : List ℕ → Columns → Result Contents Refusal → Type 0
ReadsOption option k r = MatchResult r (λ m. ReadOption option m k) (λ e. read_option option ≡ values.refused (refusal_number e) (bad_place e))

-- WHAT AN ACCEPTED CALL LEAVES

-- These leases from `from` on, then zeros up to the end of the n that stood there, and the time as the last time.
abbrev pub left : List ℕ → ℕ → ℕ → List Lease → ℕ → List ℕ
left buffer from n xs now = put (put buffer from (concat_map lease_record xs ++ replicate (lease_size * (n - length xs)) 0)) last_at (le32 now)

-- Of the leases xs that stood there those are left that are present, and the image ends after them.
pub record Finished (buffer : List ℕ) (from : ℕ) (xs : List Lease) (now : ℕ) (after : List ℕ) (bytes : ℕ) : Type 0 where
  pub bytes-are : bytes ≡ from + lease_size * length (present now xs)
  pub after_is : after ≡ left buffer from (length xs) (present now xs) now

-- What is lent after it holds a sound table with so many pools, so its leases can be counted again.
pub record LeftSound (g : Lent) (pools : ℕ) : Type 0 where
  pub sound : sound_of (table_in g) ≡ true
  pub image : image_of (table_in g) ≡ take g.bytes g.image
  pub size : length (image_of (table_in g)) ≡ g.bytes
  pub pools-are : pools ≡ length (used_pools (table_in g))

abbrev pub LeftIfAccepted : ℕ → Lent → ℕ → Type 0
LeftIfAccepted number g pools = number ≡ 0 → LeftSound g pools
