-- Matching and filing as the code goes about them, place by place.
use Rattle.std.specs.Prelude.{ℕ, ◌-◌, Bool, true, false, cond, ◌&&◌, List, [], ◌∷◌, ◌++◌, length, replicate, ltb, eqb}
use Rattle.lists.specs.Lists.{and}
use Rattle.option_entry.specs.Entries.{Entry}
use Rattle.table.specs.declared.Lease.{Lease}
use Rattle.figures.specs.declared.FigureRow.{FigureRow}
use Rattle.table.specs.Table.{present}
use Rattle.figures.specs.Figures.{untold, empty_row, of_lease?, kept_rows, filed_by}

-- The first rows are of these leases; others may follow.
abbrev pub leases_match? : List Lease → List FigureRow → Bool
leases_match? [] rs = true
leases_match? (x ∷ xs) [] = false
leases_match? (x ∷ xs) (r ∷ rs) = of_lease? x r && leases_match? xs rs

-- The row of an empty slot.
unfoldable pub empty_row? : FigureRow → Bool
empty_row? r = and (eqb r.network 0 ∷ eqb r.length 0 ∷ eqb r.high_water.0 untold ∷ eqb r.in_use.0 untold ∷ eqb r.unusable.0 untold ∷ [])

-- Each lease's row changed, and those behind as they are.
abbrev pub with_each : (Lease → FigureRow → FigureRow) → List Lease → List FigureRow → List FigureRow
with_each h [] rs = rs
with_each h (x ∷ xs) [] = []
with_each h (x ∷ xs) (r ∷ rs) = h x r ∷ with_each h xs rs

-- The row of a lease, once the entries up to here are filed: that of a present lease of this client.
abbrev pub filing : ℕ → ℕ → List Entry → Lease → FigureRow → FigureRow
filing now client es x r = cond (ltb now x.expires && eqb x.client client) (filed_by es r) r

-- The rows of a table of so many slots once those of ended leases are struck: the rows of the leases that are present, and empty ones behind them.
abbrev pub struck_rows : ℕ → ℕ → List Lease → List FigureRow → List FigureRow
struck_rows slots now xs rows = kept_rows now xs rows ++ replicate (slots - length (present now xs)) empty_row
