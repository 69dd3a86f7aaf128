-- What is known where a return has passed every row before 11.
use Rattle.std.specs.Prelude.{ℕ, List, [], ◌∷◌}
use Rattle.lists.specs.Lists.{filter}
use Rattle.option.specs.Contents.{entries_in}
use Rattle.table.specs.declared.Lease.{Lease}
use Rattle.table.specs.Table.{present}
use Rattle.image_check.specs.declared.ImageSummary.{ImageSummary}
use Rattle.ledger.specs.Ledger.{Call, Row, first_of, nothing?, named_by?, release_rows}
use Rattle.call_entries.specs.EntryCalls.{Passed}
use Rattle.call_spec.specs.ImageCalls.{Lent, table_in, state_in}

-- The leases that the option's entries name, and the row that is left.
abbrev pub found_by : Lent → ℕ → Call → List Lease
found_by h now c = filter (named_by? c.client (entries_in c.option)) (present now (table_in h).leases)

abbrev pub eleven : Lent → ℕ → Call → List Row
eleven h now c = (11, nothing? (found_by h now c)) ∷ []

abbrev pub Releasing : Lent → ℕ → Call → ImageSummary → List ℕ → List ℕ → Type 0
Releasing h now c = Passed h now c (first_of (release_rows (state_in h) now c)) (eleven h now c)
