-- `image_records::remove_expired` meets its contract.
use native.Mathlib.Omega.{arith}
use Rattle.image_records.proofs.RemoveLaws.{removed}
use Rattle.image_records.proofs.remove_expired.Goals as goal

pub returns : goal.returns
returns c =
    let a = c.args in
    let up = c.close_up-kept in record {
      upper_bound = omega (arith, up.ensures.upper_bound.0);
      value = removed a.image.now a.from a.n a.first a.last a.time c.requires.0 c.requires.1 c.requires.2 _ up.result up.ensures.upper_bound.0 up.ensures.upper_bound.1 up.ensures.closed up.auto.image _ _
          c.shift.ensures c.clear.ensures;
    }
