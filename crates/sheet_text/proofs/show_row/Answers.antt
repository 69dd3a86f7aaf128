-- `sheet_text::show_row` meets its contract: told from a line of its own, or written.
use native.Mathlib.Omega.{arith}
use Rattle.sheet_text.specs.InnerScan.{row_of}
use Rattle.sheet_text.proofs.RowTexts.{any-row}
use Rattle.sheet_text.proofs.ShowLaws.{room_fits, wrote-empty}
use Rattle.sheet_text.proofs.show_row.Goals as goal

pub put_row-requires : goal.put_row-requires
put_row-requires c = omega (arith, any-row (row_of c.args.row))

pub returns-then-out-eq0 : goal.returns-then-out-eq0
returns-then-out-eq0 c = wrote-empty _ _ _ _ (omega arith) (omega (arith, c.put_row.ensures.place))

pub put_row-requires-2 : goal.put_row-requires-2
put_row-requires-2 c = omega (arith, room_fits _ _ _ c.requires c.if-out-eq0.false)
