-- The figures sheet as lines of the output.
use Rattle.std.specs.Prelude.{ℕ, ◌/◌, ◌%◌, cond, List, [], ◌++◌, eqb}
use Rattle.lists.specs.Lists.{concat_map}
use Rattle.text.specs.Ascii.{ascii}
use Rattle.option_entry.specs.declared.{HighWater.HighWater, InUse.InUse, Unusable.Unusable}
use Rattle.table.specs.Table.{no_lease}
use Rattle.figures.specs.declared.FigureRow.{FigureRow}
use Rattle.figures.specs.Figures.{untold, of_lease?}
use Rattle.console_lines.specs.Lines.{decimal, ok_line}

-- "`-` for a figure that is untold"
abbrev pub figure_text : ℕ → List ℕ
figure_text n = cond (eqb n untold) (ascii "-") (decimal n)

-- Each figure behind its own name.
abbrev pub high_water_text : HighWater → List ℕ
high_water_text f = ascii " high-water=" ++ figure_text f.0

abbrev pub in_use_text : InUse → List ℕ
in_use_text f = ascii " in-use=" ++ figure_text f.0

abbrev pub unusable_text : Unusable → List ℕ
unusable_text f = ascii " unusable=" ++ figure_text f.0

-- A.B.C.D/L, whatever its alignment.
abbrev pub prefix_text : ℕ → ℕ → List ℕ
prefix_text network len =
    decimal (network / 16777216) ++ (ascii "." ++ (decimal (network / 65536 % 256) ++ (ascii "." ++ (decimal (network / 256 % 256) ++ (ascii "." ++ (decimal (network % 256) ++ (ascii "/" ++ decimal len)))))))

-- "figures 10.0.1.0/26 high-water=10 in-use=7 unusable=-": "rows are written as they stand".
unfoldable pub row_line : FigureRow → List ℕ
row_line r = ascii "figures " ++ (prefix_text r.network r.length ++ (high_water_text r.high_water ++ (in_use_text r.in_use ++ (unusable_text r.unusable ++ ascii "\n"))))

-- "A row is an empty line's if its network and length are 0", whatever its figures are: it has no line.
unfoldable pub row_text : FigureRow → List ℕ
row_text r = cond (of_lease? no_lease r) [] (row_line r)

-- "the sheet: a line for each row that is not an empty line's, in order, then `ok`"
unfoldable pub figures_text : List FigureRow → List ℕ
figures_text rows = concat_map row_text rows ++ ok_line
