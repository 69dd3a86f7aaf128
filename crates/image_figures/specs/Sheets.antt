-- The figures sheet as bytes, in a lent buffer: a row for each slot of the table, one after another.
use Rattle.std.specs.Prelude.{ℕ, zero, suc, ◌*◌, cond, List, [], ◌∷◌, ◌++◌, length, drop, get_or, eqb}
use Rattle.lists.specs.Lists.{concat_map}
use Rattle.table.specs.Table.{lease_slots}
use Rattle.image.specs.Fields.{number16, number32}
use Rattle.image.specs.Image.{le16, le32}
use Rattle.figures.specs.declared.FigureRow.{FigureRow}

-- SIZES, as ROW and FIGURES in the code.
abbrev pub row_size : ℕ
row_size = 11

abbrev pub figures_size : ℕ
figures_size = row_size * lease_slots

-- WHAT A SHEET IS: of each row network (4), length (1), high water (2), in use (2), unusable (2), little-endian as in the image.
unfoldable pub row_bytes : FigureRow → List ℕ
row_bytes r = le32 r.network ++ (r.length ∷ []) ++ le16 r.high_water.0 ++ le16 r.in_use.0 ++ le16 r.unusable.0

abbrev pub sheet_of : List FigureRow → List ℕ
sheet_of rows = concat_map row_bytes rows

-- THE ROWS OF A SHEET. A row as it stands at the front of some bytes; so many rows; those of a whole sheet.
abbrev pub row_in : List ℕ → FigureRow
row_in s = record {
  network = number32 s 0;
  length = get_or s 4 0;
  high_water = record { 0 = number16 s 5 };
  in_use = record { 0 = number16 s 7 };
  unusable = record { 0 = number16 s 9 };
}

unfoldable pub rows_in : ℕ → List ℕ → List FigureRow
rows_in zero s = []
rows_in (suc n) s = row_in s ∷ rows_in n (drop row_size s)

-- Bytes of another size have no rows, so they match no table.
unfoldable pub sheet_rows : List ℕ → List FigureRow
sheet_rows s = cond (eqb (length s) figures_size) (rows_in lease_slots s) []
