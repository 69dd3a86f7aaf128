-- `put_item` meets its contract, by the kind of the item. An unknown one never fits.
use native.Mathlib.Omega.{arith}
use Prim.Native.Nat.{ℕ}
use mathlib.Core.Path.{◌≡◌, refl, sym, ap, ◌∙◌}
use mathlib.Core.Bool.{true, false}
use Rattle.option.specs.Writing.{request_bytes, suboption_bytes}
use Rattle.option.specs.Writer.{writable?}
use Rattle.option_measure.specs.Lists.{value_of}
use Rattle.option_measure.specs.declared.Item.{Item}
use Rattle.option_write.proofs.ItemPuts.{put_as}
use Rattle.option_write.proofs.put_item.Goals as goal

pub returns-in-Request : goal.returns-in-Request
unfolding suboption_bytes request_bytes
returns-in-Request c =
    let l = c.args.list.now in
    put_as _ _ _ _ _ _ (ap (value_of l.entries l.octets) c.in-Request.is) (record { stored = c.put_request.ensures; place = refl })

pub returns-in-Unknown : goal.returns-in-Unknown
unfolding writable?
returns-in-Unknown c =
    let l = c.args.list.now in
    let never : false ≡ true = sym (ap (λ (x : Item). writable? (value_of l.entries l.octets x)) c.in-Unknown.is) ∙ c.requires.1.good in
    let z : ◌≡◌ {A = ℕ} 0 1 = cc in
    absurd (omega arith)
