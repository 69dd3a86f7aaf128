-- `image_figures::strike` meets its contract.
use mathlib.Core.Path.{refl}
use native.Mathlib.Omega.{arith}
use Rattle.image_figures.proofs.StrikeLaws.{struck}
use Rattle.image_figures.proofs.strike.Goals as goal

pub returns : goal.returns
returns c =
    let a = c.args in
    let pre = c.requires in
    let close = c.close_rows-kept in record {
      upper_bound = omega (arith, close.ensures.upper_bound, pre.1);
      value = struck a.sheet.now a.image.now a.from a.first a.last a.n a.time pre.0 pre.1 pre.2 _ close.result close.ensures.upper_bound close.ensures.closing _ _ _
          c.shift.ensures refl c.clear_rows.ensures;
    }
