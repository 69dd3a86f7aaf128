-- `image_forms::widen` meets its contract.
use Prim.Native.Nat.{◌+◌, ◌*◌}
use mathlib.Core.Path.{◌≡◌, sym, ◌∙◌}
use mathlib.Core.List.{[], ◌++◌, append-nil}
use native.Mathlib.Omega.{arith}
use lib.ListN.{length}
use Rattle.image.specs.declared.Form.TheVariants.{First, Second}
use Rattle.image.specs.Image.{head_size, pool_size, used_pools, image_as}
use Rattle.image_forms.proofs.FormLaws.{moved-size, moved-image}
use Rattle.image_forms.proofs.widen.Goals as goal

pub returns : goal.returns
returns c =
    let a = c.args in
    let n = head_size + pool_size * a.pools in record {
      value = omega arith;
      value_2 = λ t e fits pools leases.
          let here : a.saved.now ≡ image_as First t ++ [] = sym e ∙ sym (append-nil (image_as First t)) in
          let counted : n ≡ head_size + pool_size * length (used_pools t) = omega arith in (
            moved-size Second t n a.leases counted leases,
            moved-image First Second t a.saved.now [] here n counted fits a.leases leases a.image.now _ _ (omega arith) c.put_front.ensures c.put_leases_as.ensures,
          );
    }
