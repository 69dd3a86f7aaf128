-- What the library says it wrote lies in its buffer.
use Rattle.std.proofs.Common.{length-take-le, sym}
use Rattle.sheet_text.proofs.SheetHolds.{written-within}
use Rattle.sheet.proofs.show.Goals as goal

pub slice_bounds-out-end : goal.slice_bounds-out-end
slice_bounds-out-end g c = (written-within _ _ c.sheet_of_image.ensures c.in-Ok-sheet_of_image.is).1

pub slice_bounds-write_output-end-3 : goal.slice_bounds-write_output-end-3
slice_bounds-write_output-end-3 g c = sym (length-take-le _ _ (written-within _ _ c.sheet_of_image.ensures c.in-Ok-sheet_of_image.is).1)
