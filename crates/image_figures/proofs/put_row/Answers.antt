-- `image_figures::put_row` meets its contract.
use Rattle.image_figures.proofs.RowLaws.{row_put}
use Rattle.image_figures.proofs.put_row.Goals as goal

pub returns : goal.returns
returns c =
    let a = c.args in
    row_put a.r a.at a.sheet.now c.put32.new.out c.put16.new.out c.put16-2.new.out c.put16-3.new.out
    c.put32.ensures c.put16.ensures c.put16-2.ensures c.put16-3.ensures
