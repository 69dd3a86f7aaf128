-- `image_forms::narrow` meets its contract.
use Prim.Native.Nat.{◌+◌, ◌*◌}
use mathlib.Core.Path.{◌≡◌, sym, ap, ◌∙◌}
use mathlib.Core.List.{◌++◌}
use native.Mathlib.Omega.{arith}
use lib.ListN.{length, drop, take-append-drop}
use Rattle.image.specs.declared.Form.TheVariants.{First, Second}
use Rattle.image.specs.Image.{head_size, pool_size, used_pools, image_as}
use Rattle.image_forms.proofs.FormLaws.{moved-size, moved-image}
use Rattle.image_forms.proofs.narrow.Goals as goal

pub returns : goal.returns
returns c =
    let a = c.args in
    let n = head_size + pool_size * a.pools in record {
      value = omega arith;
      value_2 = λ t bytes e fits pools leases.
          let q = drop bytes a.image.now in
          let here : a.image.now ≡ image_as Second t ++ q = sym (take-append-drop bytes a.image.now) ∙ ap (λ s. s ++ q) (sym e) in
          let counted : n ≡ head_size + pool_size * length (used_pools t) = omega arith in (
            moved-size First t n a.leases counted leases,
            moved-image Second First t a.image.now q here n counted fits a.leases leases a.buffer.now _ _ (omega arith) c.put_front.ensures c.put_leases_as.ensures,
          );
    }
