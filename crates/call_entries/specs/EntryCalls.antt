-- What is known where take or return has passed every row before 11.
use Rattle.std.specs.Prelude.{ℕ, ◌+◌, ◌*◌, ◌≤◌, ◌≡◌, true, List, length}
use Rattle.std.proofs.Math.Option.{Option}
use Rattle.option.specs.Contents.{entries_in}
use Rattle.table.specs.Table.{pool_slots}
use Rattle.image.specs.Image.{lease_size}
use Rattle.image_check.specs.declared.ImageSummary.{ImageSummary}
use Rattle.image_figures.specs.Sheets.{row_size}
use Rattle.option_reply.specs.Reply.{most_entries}
use Rattle.ledger.specs.Ledger.{Call, Row, first_of}
use Rattle.call_spec.specs.ImageCalls.{Lent}
use Rattle.call_rows.specs.Admission.{leases_from, Admitted}
use Rattle.call_entries.specs.EntryLeases.{Hold}
use Rattle.call_entries.specs.EntryFigures.{first_entries, LeftAt}

-- All that is gone through lies within the buffers.
pub record Sized (h : Lent) (summary : ImageSummary) (networks lengths : List ℕ) : Type 0 where
  pub pools : summary.pools ≤ pool_slots
  pub within : leases_from summary + lease_size * summary.leases ≤ length h.image
  pub rows : row_size * summary.leases ≤ length h.figures
  pub columns : length networks ≡ length lengths
  pub few : length networks ≤ most_entries

-- The first row that applies is the first of the call's own, the columns hold the option's entries, and their figures are left to read.
pub record Passed (h : Lent) (now : ℕ) (c : Call) (first : Option ℕ) (own : List Row) (summary : ImageSummary) (networks lengths : List ℕ) : Type 0 where
  pub admitted : Admitted true h now c.client summary
  pub left-rows : first ≡ first_of own
  pub hold : Hold networks lengths (entries_in c.option)
  pub left : LeftAt c.option first_entries (entries_in c.option)
