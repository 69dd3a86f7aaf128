-- What is known where a take has passed every row before 11.
use Rattle.std.specs.Prelude.{ℕ, ◌+◌, ◌*◌, ◌≤◌, ◌<◌, List, [], ◌∷◌, ◌≡◌, length}
use Rattle.option.specs.Values.{Entry}
use Rattle.table.specs.declared.Lease.{Lease}
use Rattle.table.specs.Table.{lease_slots, present}
use Rattle.image.specs.Image.{head_size, lease_size}
use Rattle.image_check.specs.declared.ImageSummary.{ImageSummary}
use Rattle.image_figures.specs.Sheets.{row_size}
use Rattle.option_reply.specs.Reply.{most_entries}
use Rattle.ledger.specs.Ledger.{Call, Row, first_of, nothing?, least_reply, usable_entries, returned, found, take_rows}
use Rattle.call_rows.specs.Admission.{leases_from}
use Rattle.call_entries.specs.EntryCalls.{Passed}
use Rattle.call_ground.specs.declared.Ground.{Ground}
use Rattle.call_ground.specs.Ground.{Grounds}
use Rattle.call_spec.specs.ImageCalls.{Lent, table_in, state_in}
use Rattle.call_take.specs.declared.Renewal.{Renewal}

-- The leases of an image, and those of them on the ground, renewed from now on for its term.
abbrev pub renewal_of : ℕ → ℕ → ImageSummary → Ground → Renewal
renewal_of client now summary area = record {
  from = leases_from summary;
  n = summary.leases;
  first = area.first;
  leases = area.leases;
  expired = summary.expired;
  expiry = record { client = client; time = now; expires = now + summary.term };
}

-- All that is gone through lies within the buffers, and the new end of a lease is after now.
pub record TakeSized (h : Lent) (renewal : Renewal) (reply networks lengths : List ℕ) : Type 0 where
  pub head : head_size ≤ renewal.from
  pub within : renewal.from + lease_size * renewal.n ≤ length h.image
  pub few-leases : renewal.n ≤ lease_slots
  pub part : renewal.first + renewal.leases ≤ renewal.n
  pub rows : row_size * renewal.n ≤ length h.figures
  pub columns : length networks ≡ length lengths
  pub few : length networks ≤ most_entries
  pub room : least_reply ≤ length reply
  pub later : renewal.expiry.time < renewal.expiry.expires

-- The option's entries that lie on the ground, the leases that these name, in order, and the row that is left.
abbrev pub usable_in : Lent → Call → List Entry
usable_in h c = usable_entries (table_in h) c

abbrev pub found_by : Lent → ℕ → Call → List Lease
found_by h now c = found c.client (present now (table_in h).leases) (usable_in h c)

abbrev pub eleven : Lent → ℕ → Call → List Row
eleven h now c = (11, nothing? (found_by h now c)) ∷ []

-- The call has its ground, and its reply buffer has room for option 118 as well.
pub record Taking (h : Lent) (now : ℕ) (c : Call) (summary : ImageSummary) (area : Ground) (networks lengths : List ℕ) : Type 0 where
  pub passed : Passed h now c (first_of (take_rows (state_in h) now c)) (eleven h now c) summary networks lengths
  pub grounds : Grounds h c summary area
  pub room : least_reply + length (returned c.selection) ≤ length c.reply
