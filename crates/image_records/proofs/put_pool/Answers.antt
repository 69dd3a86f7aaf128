-- `image_records::put_pool` meets its contract.
use mathlib.Core.Path.{◌∙◌}
use lib.ListN.{length-set}
use Rattle.image.proofs.WriteLaws.{pool-put}
use Rattle.image_records.proofs.put_pool.Goals as goal

pub shape_of-out : goal.shape_of-out
shape_of-out c = simp length-set (c.put32-2.auto.out ∙ c.put32.auto.out)

pub returns : goal.returns
returns c = let a = c.args in pool-put a.p a.at _ _ _ c.put32.ensures c.put32-2.ensures
