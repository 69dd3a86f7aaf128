-- "When a line is struck its row is cleared": what becomes of rows of which the first are these leases'.
use Rattle.std.specs.Prelude.{ℕ, ◌-◌, cond, List, ◌++◌, length, drop, replicate, eqb}
use Rattle.table.specs.declared.Lease.{Lease}
use Rattle.table.specs.Table.{present}
use Rattle.figures.specs.declared.FigureRow.{FigureRow}
use Rattle.figures.specs.Figures.{empty_row, kept_rows}

-- The rows of the leases that are present, and empty ones up to where those of all the leases ended (`strike` of crate `image_figures`).
abbrev pub struck_in : ℕ → List Lease → List FigureRow → List FigureRow
struck_in now xs rows = kept_rows now xs rows ++ (replicate (length xs - length (present now xs)) empty_row ++ drop (length xs) rows)

-- So many leases have expired: where none has, every row stays.
unfoldable pub struck_if : ℕ → ℕ → List Lease → List FigureRow → List FigureRow
struck_if expired now xs rows = cond (eqb expired 0) rows (struck_in now xs rows)
