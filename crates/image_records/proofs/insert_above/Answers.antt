-- `image_records::insert_above` meets its contract: the later records are raised, and the new one stands right before them.
use native.Mathlib.Omega.{arith}
use Rattle.image_records.proofs.InsertLaws.{inserted}
use Rattle.image_records.proofs.insert_above.Goals as goal

pub returns : goal.returns
returns c =
    let a = c.args in
    let place = c.place_after-place in record { upper_bound = place.ensures.upper_bound; xs_value = λ xs r e s. inserted a.image.now a.from a.n a.room a.x place.result (omega arith) _ _ c.shift.ensures c.put_lease.ensures xs r e s (place.ensures.value xs r e s) }
