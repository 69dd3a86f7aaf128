-- Rows and their text: figures told and untold, an empty slot's row with a figure told, and one that is no empty slot's by its length alone.
-- Assumes nothing.
use Prim.Native.Nat.{ℕ}
use mathlib.Core.Path.{◌≡◌, refl}
use mathlib.Core.List.{[], ◌∷◌, map}
use Rattle.text.specs.Ascii.{ascii}
use Rattle.text.specs.Decimal.{digits}
use Rattle.figures.specs.declared.FigureRow.{FigureRow}
use Rattle.figures.specs.Figures.{untold, of_lease?}
use Rattle.console_lines.specs.FigureLines.{row_line, row_text}

row : ℕ → ℕ → ℕ → ℕ → ℕ → FigureRow
row network len high busy bad = record { network = network; length = len; high_water = record { 0 = high }; in_use = record { 0 = busy }; unusable = record { 0 = bad } }

rows-shown :
    map row_text (row 167772416 26 10 7 untold ∷ row 0 0 10 7 2 ∷ row 0 255 0 1000 65534 ∷ [])
    ≡ ascii "figures 10.0.1.0/26 high-water=10 in-use=7 unusable=-\n" ∷ [] ∷ ascii "figures 0.0.0.0/255 high-water=0 in-use=1000 unusable=65534\n" ∷ []
unfolding row row_text row_line of_lease? digits
rows-shown = refl
