-- Where the leases stand that entries name, in whose rows the entries' figures are filed.
use Rattle.std.specs.Prelude.{ℕ, ◌+◌, ◌*◌, ◌≤◌, ◌<◌, ◌≡◌, Bool, true, false, List, [], ◌∷◌, ◌++◌, length, get_or, set, Option, Some, None, IfSome, MatchOption, ⊤}
use Rattle.lists.specs.Lists.{All}
use Rattle.option_entry.specs.declared.Figures.{Figures}
use Rattle.option.specs.Values.{Entry}
use Rattle.table.specs.declared.Lease.{Lease}
use Rattle.table.specs.Table.{no_lease}
use Rattle.figures.specs.declared.FigureRow.{FigureRow}
use Rattle.figures.specs.Figures.{empty_row, filed}
use Rattle.figures.specs.Inner.{leases_match?}
use Rattle.image_records.specs.Records.{Ascending}
use Rattle.image_figures.specs.Sheets.{row_size, sheet_of}
use Rattle.call_entries.specs.EntryLeases.{named?}
use Rattle.call_entries.specs.EntryFigures.{first_entries, LeftAt}

-- The place of a lease that passes the test; none, where no lease does.
abbrev pub PlaceOf : (Lease → Bool) → List Lease → Option ℕ → Type 0
PlaceOf g xs r = MatchOption r (All (λ x. g x ≡ false) xs) (λ i. (i < length xs) × (g (get_or xs i no_lease) ≡ true))

-- For each entry the place of the lease that it names.
abbrev pub PlacesOf : ℕ → ℕ → List Lease → List Entry → List (Option ℕ) → Type 0
PlacesOf now client xs [] [] = ⊤
PlacesOf now client xs [] (r ∷ rs) = ⊥
PlacesOf now client xs (e ∷ es) [] = ⊥
PlacesOf now client xs (e ∷ es) (r ∷ rs) = PlaceOf (named? now client e.network e.length) xs r × PlacesOf now client xs es rs

-- A place below n, and one whose row, counted from the row `first` on, lies within so many bytes.
abbrev pub PlaceBelow : ℕ → Option ℕ → Type 0
PlaceBelow n r = IfSome r (λ i. i < n)

abbrev pub RowWithin : ℕ → ℕ → Option ℕ → Type 0
RowWithin first bytes r = IfSome r (λ i. row_size * (first + i) + row_size ≤ bytes)

-- The rows with these figures filed at a place, if there is one, counted from the row `first` on.
abbrev pub filed_at : ℕ → Option ℕ → Figures → List FigureRow → List FigureRow
filed_at first None f rows = rows
filed_at first (Some i) f rows = set rows (first + i) (filed f (get_or rows (first + i) empty_row))

-- What is known where figures are filed: the entries are left to read, these are the places of the leases that they name, and the sheet has a row for
-- each lease, after `first` others.
pub record ToFile (option : List ℕ) (places : List (Option ℕ)) (sheet : List ℕ) (first now client : ℕ) (xs : List Lease) (es : List Entry) (before rs : List FigureRow) : Type 0 where
  pub left : LeftAt option first_entries es
  pub places-are : PlacesOf now client xs es places
  pub ascending : Ascending xs
  pub behind : first ≡ length before
  pub sheet-is : sheet ≡ sheet_of (before ++ rs)
  pub matched : leases_match? xs rs ≡ true
