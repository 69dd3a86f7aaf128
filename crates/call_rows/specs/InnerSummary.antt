-- What the check of an image says of what is lent.
use Rattle.std.specs.Prelude.{ℕ, ◌+◌, ◌*◌, ◌≤◌, ◌≡◌, Bool, false, not, ◌||◌, List, length, Option, is_some}
use Rattle.lists.specs.Lists.{All}
use Rattle.table.specs.declared.Lease.{Lease}
use Rattle.table.specs.Table.{lease_slots, empty?, padded}
use Rattle.table.specs.Table.{sound as sound_of}
use Rattle.image.specs.Image.{lease_size}
use Rattle.image.specs.Reading.{load_image}
use Rattle.image_check.specs.declared.ImageSummary.{ImageSummary}
use Rattle.image_check.specs.ImageSummary.{summary_of}
use Rattle.image_records.specs.Records.{Records}
use Rattle.figures.specs.Figures.{matches?}
use Rattle.image_figures.specs.Sheets.{sheet_rows}
use Rattle.call_spec.specs.ImageCalls.{Lent, image_in, table_in}
use Rattle.call_rows.specs.Admission.{leases_from}

-- Where it says nothing, the ledger has row 5 of the table that the bytes stand for.
pub record SummaryIn (h : Lent) (now : ℕ) (summary : Option ImageSummary) : Type 0 where
  pub is : summary ≡ summary_of now (load_image (image_in h))
  pub sound : is_some summary ≡ sound_of (table_in h)

-- Its leases lie in the buffer.
pub record Measured (summary : ImageSummary) (image : List ℕ) : Type 0 where
  pub few : summary.leases ≤ lease_slots
  pub within : leases_from summary + lease_size * summary.leases ≤ length image

-- Whether row 15 lets the sheet pass, if there is one: its rows match the leases.
abbrev pub SheetPasses : Bool → ImageSummary → List ℕ → List ℕ → Bool → Type 0
SheetPasses sheet summary image figures passes = (xs : List Lease) → Records image (leases_from summary) xs → summary.leases ≡ length xs
    → All (λ x. empty? x ≡ false) xs → passes ≡ (not sheet || matches? (padded xs) (sheet_rows figures))
