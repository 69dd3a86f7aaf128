-- `image_records::put_head` meets its contract.
use mathlib.Core.Path.{◌∙◌}
use lib.ListN.{length-set}
use native.Mathlib.Omega.{arith}
use Rattle.image.proofs.WriteLaws.{head-put}
use Rattle.image_records.proofs.put_head.Goals as goal

pub put32-requires-3 : goal.put32-requires-3
put32-requires-3 c = simp length-set (omega arith)

pub shape_of-out : goal.shape_of-out
shape_of-out c = c.put32-3.auto.out ∙ simp length-set (c.put32-2.auto.out ∙ c.put32.auto.out)

pub returns : goal.returns
returns c = head-put c.args.head _ _ _ _ c.put32.ensures c.put32-2.ensures c.put32-3.ensures
