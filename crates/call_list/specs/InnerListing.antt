-- What is known where a list has passed every row before 11.
use Rattle.std.specs.Prelude.{ℕ, ◌≤◌, ◌≡◌, false, List, [], ◌∷◌, length}
use Rattle.std.proofs.Math.Option.{none}
use Rattle.option.specs.Reading.{read_option}
use Rattle.option.specs.Contents.{suboptions, position}
use Rattle.table.specs.declared.Lease.{Lease}
use Rattle.image_check.specs.declared.ImageSummary.{ImageSummary}
use Rattle.ledger.specs.Ledger.{Call, Row, first_of, nothing?, least_reply, listed_in, list_rows}
use Rattle.option_scan.specs.declared.Contents.{Contents}
use Rattle.option_scan.specs.Scanned.{position_of}
use Rattle.call_spec.specs.ImageCalls.{Lent, table_in, state_in}
use Rattle.call_rows.specs.Admission.{Admitted}

-- What a call lists, and the row that is left.
abbrev pub listed_by : Lent → ℕ → Call → List Lease
listed_by h now c = listed_in (table_in h) now c.client c.option

abbrev pub eleven : Lent → ℕ → Call → List Row
eleven h now c = (11, nothing? (listed_by h now c)) ∷ []

pub record Listing (h : Lent) (now : ℕ) (c : Call) (summary : ImageSummary) (pieces : Contents) : Type 0 where
  pub admitted : Admitted false h now c.client summary
  pub room : least_reply ≤ length c.reply
  pub left-rows : first_of (list_rows (state_in h) now c) ≡ first_of (eleven h now c)
  pub position-is : position_of pieces ≡ position none (suboptions (read_option c.option))
