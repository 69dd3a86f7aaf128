use Prim.Native.Nat.{◌+◌, ◌*◌, ◌≤◌}
use mathlib.Core.Path.{◌≡◌}
use lib.ListN.{length, take}
use Rattle.lists.specs.Lists.{concat_map}
use Rattle.text.specs.Wrote.{Wrote}
use Rattle.table.specs.Table.{lease_slots}
use Rattle.image_figures.specs.Sheets.{rows_in}
use Rattle.console_lines.specs.Sizes.{row_most}
use Rattle.console_lines.specs.FigureLines.{row_text}
use Rattle.console_lines.proofs.figures_sheet.Given as goal

abbrev pub invariant-loop-i : goal.invariant-loop-i
invariant-loop-i l = (l.end ≤ l.at + row_most * l.i) × (length l.out ≡ length l.initial.out) × Wrote l.initial.out l.at (concat_map row_text (take l.i (rows_in lease_slots l.sheet))) l.out l.end
