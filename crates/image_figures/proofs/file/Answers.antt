-- `image_figures::file` meets its contract.
use Prim.Native.Nat.{◌*◌, ◌<◌}
use mathlib.Core.Path.{◌≡◌, ap, ◌∙◌}
use native.Mathlib.Omega.{arith}
use lib.ListN.{length, get_or}
use Rattle.lists.specs.Put.{put}
use Rattle.figures.specs.declared.FigureRow.{FigureRow}
use Rattle.figures.specs.Figures.{empty_row, filed}
use Rattle.image_figures.specs.Sheets.{row_size, row_bytes}
use Rattle.image_figures.proofs.RowLaws.{sheet-length, row-in-place, row-edited}
use Rattle.image_figures.proofs.file.Goals as goal

pub returns : goal.returns
returns c rows s =
    let a = c.args in
    let read = c.row_at-r in
    let new = c.filed_row in
    let inside : a.place < length rows = omega (arith, sheet-length a.sheet.now rows s, c.requires) in
    let row_is : new.result ≡ filed a.f (get_or rows a.place empty_row) = new.ensures ∙ ap (filed a.f) (read.ensures ∙ row-in-place a.sheet.now rows s a.place inside) in
    row-edited a.sheet.now rows s _ a.place (filed a.f (get_or rows a.place empty_row)) inside
    (c.put_row.ensures ∙ ap (λ (r : FigureRow). put a.sheet.now (row_size * a.place) (row_bytes r)) row_is)
