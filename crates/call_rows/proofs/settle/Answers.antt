-- `settle` meets its contract.
use mathlib.Core.List.{[]}
use native.Mathlib.Omega.{arith}
use Rattle.call_spec.specs.ImageCalls.{Lent, lent}
use Rattle.call_rows.specs.Admission.{LeftSound}
use Rattle.call_rows.proofs.BookSummary.{left-from, left-few, left-stands, left-some}
use Rattle.call_rows.proofs.SettleLaws.{stays-refused, stays-unmoved, counted-again}
use Rattle.call_rows.proofs.settle.Goals as goal

pub returns-then-number-ne0 : goal.returns-then-number-ne0
returns-then-number-ne0 c = let a = c.args in stays-refused a.number a.moved _ _ c.if-number-ne0.true

pub returns-then-not-moved : goal.returns-then-not-moved
returns-then-not-moved c = let a = c.args in stays-unmoved a.number a.moved _ _ c.if-not-moved.true

left-of : (c : goal.Else-not-moved) → let a = c.args in LeftSound (lent a.image.now a.image_bytes []) a.pools
left-of c = c.requires c.if-number-ne0.false

left-of-2 : (c : goal.After-recount-arg-1) → let a = c.args in LeftSound (lent a.image.now a.image_bytes []) a.pools
left-of-2 c = c.requires c.if-number-ne0.false

left-of-3 : (c : goal.After-recount) → let a = c.args in LeftSound (lent a.image.now a.image_bytes []) a.pools
left-of-3 c = c.requires c.if-number-ne0.false

pub overflow_mul-leases : goal.overflow_mul-leases
overflow_mul-leases c = let a = c.args in omega (arith, left-few (lent a.image.now a.image_bytes []) a.pools (left-of c))

pub overflow_add-leases : goal.overflow_add-leases
overflow_add-leases c = let a = c.args in omega (arith, left-few (lent a.image.now a.image_bytes []) a.pools (left-of c))

pub overflow_sub-leases : goal.overflow_sub-leases
overflow_sub-leases c = let a = c.args in left-from (lent a.image.now a.image_bytes []) a.pools (left-of c)

pub recount-requires : goal.recount-requires
recount-requires c = let a = c.args in left-some (lent a.image.now a.image_bytes []) a.pools (left-of-2 c)

pub returns : goal.returns
returns c =
    let a = c.args in
    let g : Lent = lent a.image.now a.image_bytes [] in
    counted-again a.number a.moved _ _ c.if-number-ne0.false c.if-not-moved.false _ (c.recount.ensures _ (left-stands g a.pools (left-of-3 c)))
