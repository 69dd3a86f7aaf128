-- What striking leases in place leaves.
use Rattle.std.specs.Prelude.{ℕ, ◌≡◌, List, [], map, length, Option, MatchOption}
use Rattle.lists.specs.Lists.{filter}
use Rattle.option.specs.Values.{Entry}
use Rattle.table.specs.declared.Lease.{Lease}
use Rattle.table.specs.Table.{present}
use Rattle.ledger.specs.Ledger.{named_by?}
use Rattle.image_records.specs.Records.{ExpiredIn}
use Rattle.figures.specs.declared.FigureRow.{FigureRow}
use Rattle.image_figures.specs.Sheets.{sheet_of}
use Rattle.call_rows.specs.Admission.{Finished}
use Rattle.call_rows.specs.StruckRows.{struck_in}
use Rattle.call_entries.specs.EntryLeases.{changed_by, changed_in}
use Rattle.call_release.specs.declared.Strikes.{Strikes}

-- Each present lease that an entry names expires at 0, and `count` counts them. Where none had expired before, those that have stand between two places.
pub record Struck (buffer : List ℕ) (from : ℕ) (xs : List Lease) (now client : ℕ) (es : List Entry) (after : List ℕ) (s : Strikes) : Type 0 where
  pub counted : s.count ≡ length (filter (named_by? client es) (present now xs))
  pub after_is : after ≡ changed_in now client 0 es buffer from xs
  pub between : present now xs ≡ xs → ExpiredIn now s.first s.last (map (changed_by now client 0 es) xs)

-- Nothing, where the entries name none that is present; then the buffer stays.
abbrev pub StruckBy : List ℕ → ℕ → List Lease → ℕ → ℕ → List Entry → List ℕ → Option Strikes → Type 0
StruckBy buffer from xs now client es after r = MatchOption r ((filter (named_by? client es) (present now xs) ≡ []) × (after ≡ buffer)) (Struck buffer from xs now client es after)

-- The struck and the expired ones are removed, and their rows with them.
pub record Removed (buffer sheet : List ℕ) (from : ℕ) (xs : List Lease) (now : ℕ) (after figures : List ℕ) (bytes : ℕ) : Type 0 where
  pub finished : Finished buffer from xs now after bytes
  pub rows : (rs : List FigureRow) → sheet ≡ sheet_of rs → figures ≡ sheet_of (struck_in now xs rs)
