-- What is known of a sheet while its rows are moved, one after another.
use Rattle.std.specs.Prelude.{ℕ, zero, suc, ◌-◌, ◌≡◌, Bool, false, cond, List, length, get_or, set, take, drop}
use Rattle.table.specs.declared.Lease.{Lease}
use Rattle.image_records.specs.Records.{Records, ExpiredIn}
use Rattle.figures.specs.declared.FigureRow.{FigureRow}
use Rattle.figures.specs.Figures.{untold_row, empty_row, of_lease?, kept_rows}
use Rattle.image_figures.specs.Sheets.{sheet_of}

-- STRIKING. After its first i leases: the rows of those of them that are present, `kept` in all, stand first, and the rows from i on where they stood.
unfoldable pub Closing : List ℕ → List ℕ → ℕ → ℕ → ℕ → ℕ → ℕ → List ℕ → ℕ → ℕ → Type 0
Closing l image from first last n time sheet kept i =
    (rows : List FigureRow) (xs : List Lease) → l ≡ sheet_of rows → Records image from xs → n ≡ length xs → ExpiredIn time first last xs
    → (kept ≡ length (kept_rows time (take i xs) rows))
    × ((after : List FigureRow) × (sheet ≡ sheet_of after) × (take kept after ≡ kept_rows time (take i xs) rows) × (drop i after ≡ drop i rows) × (length after ≡ length rows))

-- SPREADING. The last of the first `left` rows is this lease's own.
unfoldable pub own? : List FigureRow → ℕ → Lease → Bool
own? rows zero x = false
own? rows (suc i) x = of_lease? x (get_or rows i empty_row)

-- A lease's row at place k: the last of the first `left` rows if it is its own, otherwise an untold one. How many rows are left, and the rows.
unfoldable pub placed : List FigureRow → ℕ → ℕ → Lease → ℕ × List FigureRow
placed rows left k x = cond (own? rows left x) (left - 1, set rows k (get_or rows (left - 1) empty_row)) (left, set rows k (untold_row x))
