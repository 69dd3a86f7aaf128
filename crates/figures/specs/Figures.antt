-- USAGE FIGURES: "Planning wants them kept, one row of three for each line, on a figures sheet beside the book; a row also holds its line's network and
-- length." Which rows match which leases, and what becomes of them.
use Rattle.std.specs.Prelude.{ℕ, Bool, true, false, not, cond, ◌&&◌, ◌||◌, List, [], ◌∷◌, map, ltb, eqb}
use Rattle.std.proofs.Math.Option.{Option, none, some}
use Rattle.lists.specs.Lists.{and}
use Rattle.option_entry.specs.declared.{Figures.Figures, HighWater.HighWater, InUse.InUse, Unusable.Unusable}
use Rattle.option_entry.specs.Entries.{Entry, figures_of}
use Rattle.table.specs.declared.{Lease.Lease, LeaseTable.LeaseTable}
use Rattle.table.specs.Table.{empty?, no_lease}
use Rattle.figures.specs.declared.FigureRow.{FigureRow}

-- "all three untold (0xffff)"
abbrev pub untold : ℕ
untold = 65535

-- "A new or loaded line starts with all three untold".
abbrev pub untold_row : Lease → FigureRow
untold_row x = record { network = x.network; length = x.length; high_water = record { 0 = untold }; in_use = record { 0 = untold }; unusable = record { 0 = untold } }

-- "an empty line's row is network and length 0, untold"
abbrev pub empty_row : FigureRow
empty_row = untold_row no_lease

-- A row of this lease: "a row also holds its line's network and length".
unfoldable pub of_lease? : Lease → FigureRow → Bool
of_lease? x r = and (eqb r.network x.network ∷ eqb r.length x.length ∷ [])

-- MATCHING: "Rows match lines, place for place .. (an empty line's row is network and length 0, untold)". Figures of other rows are free.
unfoldable pub untold? : FigureRow → Bool
untold? r = and (eqb r.high_water.0 untold ∷ eqb r.in_use.0 untold ∷ eqb r.unusable.0 untold ∷ [])

unfoldable pub fits? : Lease → FigureRow → Bool
fits? x r = of_lease? x r && (not (empty? x) || untold? r)

abbrev pub matches? : List Lease → List FigureRow → Bool
matches? [] [] = true
matches? [] (r ∷ rs) = false
matches? (x ∷ xs) [] = false
matches? (x ∷ xs) (r ∷ rs) = fits? x r && matches? xs rs

-- FOLLOWING. "When a line is struck its row is cleared": the rows of the leases that are present. That of an ended one is not among them, whatever is made
-- in its place.
abbrev pub kept_rows : ℕ → List Lease → List FigureRow → List FigureRow
kept_rows now [] rs = []
kept_rows now (x ∷ xs) [] = []
kept_rows now (x ∷ xs) (r ∷ rs) = let rest = kept_rows now xs rs in cond (ltb now x.expires) (r ∷ rest) rest

-- A lease's own row, if it had one: "nothing else changes a line's figures".
abbrev pub found : List FigureRow → Lease → Option FigureRow
found [] x = none
found (r ∷ rs) x = let later = found rs x in cond (of_lease? x r) (some r) later

abbrev pub or_untold : Lease → Option FigureRow → FigureRow
or_untold x none = untold_row x
or_untold x (some r) = r

unfoldable pub row_for : List FigureRow → Lease → FigureRow
row_for rs x = or_untold x (found rs x)

-- The rows after an accepted call on the table t that leaves the table u.
unfoldable pub followed : ℕ → LeaseTable → List FigureRow → LeaseTable → List FigureRow
followed now t rows u = map (row_for (kept_rows now t.leases rows)) u.leases

-- FILING. Each figure of an entry as what it is, a missing one untold; "0xffff or a missing figure keeps what was told before".
abbrev pub given : {K : Type 0} → Bool → K → K → K
given there missing x = cond there x missing

unfoldable pub high_water_of : Figures → HighWater
high_water_of f = given (ltb 0 f.count) (record { 0 = untold }) f.high_water

unfoldable pub in_use_of : Figures → InUse
in_use_of f = given (ltb 1 f.count) (record { 0 = untold }) f.in_use

unfoldable pub unusable_of : Figures → Unusable
unusable_of f = given (ltb 2 f.count) (record { 0 = untold }) f.unusable

unfoldable pub newer_high_water : HighWater → HighWater → HighWater
newer_high_water old new = cond (eqb new.0 untold) old new

unfoldable pub newer_in_use : InUse → InUse → InUse
newer_in_use old new = cond (eqb new.0 untold) old new

unfoldable pub newer_unusable : Unusable → Unusable → Unusable
newer_unusable old new = cond (eqb new.0 untold) old new

unfoldable pub filed : Figures → FigureRow → FigureRow
filed f r = record {
  network = r.network;
  length = r.length;
  high_water = newer_high_water r.high_water (high_water_of f);
  in_use = newer_in_use r.in_use (in_use_of f);
  unusable = newer_unusable r.unusable (unusable_of f);
}

-- "a take with figures updates the rows of its lines, in entry order": a row, by the entries that name it.
abbrev pub names? : FigureRow → Entry → Bool
names? r e = and (eqb r.network e.network ∷ eqb r.length e.length ∷ [])

abbrev pub filed_by : List Entry → FigureRow → FigureRow
filed_by [] r = r
filed_by (e ∷ es) r = filed_by es (cond (names? r e) (filed (figures_of e.figures) r) r)

-- The rows after an accepted take of this client: those of its leases are filed.
unfoldable pub taken : ℕ → ℕ → List Entry → LeaseTable → List FigureRow → LeaseTable → List FigureRow
taken now client es t rows u =
    map (λ x. let r = row_for (kept_rows now t.leases rows) x in cond (eqb x.client client) (filed_by es r) r) u.leases
