-- `image_forms::put_front` meets its contract: what is copied, with other bytes at its front.
use mathlib.Core.Path.{sym}
use native.Mathlib.Omega.{arith}
use lib.Seq.{length-take-le}
use Rattle.image_forms.proofs.FormLaws.{front-put}
use Rattle.image_forms.proofs.put_front.Goals as goal

pub slice_bounds-copy-end : goal.slice_bounds-copy-end
slice_bounds-copy-end c = let a = c.args in sym (length-take-le a.n a.s.now (omega arith))

pub copy-requires : goal.copy-requires
copy-requires c = let a = c.args in omega (arith, length-take-le a.n a.s.now (omega arith))

pub returns : goal.returns
returns c =
    let a = c.args in
    front-put a.form a.n c.head_start.result a.s.now a.out.now _ _ (omega arith) (omega arith) c.head_start.ensures c.copy.ensures.value c.put32.ensures
