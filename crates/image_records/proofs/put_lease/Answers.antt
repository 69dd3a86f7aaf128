-- `image_records::put_lease` meets its contract.
use mathlib.Core.Path.{◌∙◌}
use lib.ListN.{length-set}
use native.Mathlib.Omega.{arith}
use Rattle.image.proofs.WriteLaws.{lease-put}
use Rattle.image_records.proofs.put_lease.Goals as goal

pub bounds-out-at-2 : goal.bounds-out-at-2
bounds-out-at-2 c = simp length-set (omega arith)

pub bounds-out-at-3 : goal.bounds-out-at-3
bounds-out-at-3 c = simp length-set (omega arith)

pub put32-requires-3 : goal.put32-requires-3
put32-requires-3 c = simp length-set (omega arith)

pub put32-requires-4 : goal.put32-requires-4
put32-requires-4 c = omega (arith, simp length-set at c.put32-3.auto.out)

pub bounds-out-at-4 : goal.bounds-out-at-4
bounds-out-at-4 c = omega (arith, c.put32-4.auto.out, simp length-set at c.put32-3.auto.out)

pub put_name-requires : goal.put_name-requires
put_name-requires c = simp length-set (omega (arith, c.put32-4.auto.out, simp length-set at c.put32-3.auto.out))

pub shape_of-out : goal.shape_of-out
shape_of-out c =
    c.put_name.auto.out
    ∙ simp length-set (c.put32-4.auto.out ∙ c.put32-3.auto.out ∙ simp length-set (c.put32-2.auto.out ∙ c.put32.auto.out))

pub returns : goal.returns
returns c =
    let a = c.args in
    lease-put a.x a.at _ _ _ _ _ _ _ _ _ c.state_byte.ensures c.flags_byte.ensures c.length.ensures
    c.put32.ensures c.put32-2.ensures c.put32-3.ensures c.put32-4.ensures c.put_name.ensures
