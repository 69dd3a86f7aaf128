-- `image_figures::fill` meets its contract.
use Rattle.image_figures.proofs.FillLaws.{filled}
use Rattle.image_figures.proofs.fill.Goals as goal

pub returns : goal.returns
returns c xs r e =
    let a = c.args in
    let lines = c.fill_leases in
    let rest = c.clear_rows in
    let pre = c.requires in
    filled a.sheet.now _ _ a.n xs pre.0 pre.1 e (lines.ensures xs r e) rest.ensures
