-- `save_first` meets its contract: 18 where a lease has a name, and otherwise the image is narrowed.
use mathlib.Core.Path.{◌≡◌, sym, ap, ◌∙◌}
use mathlib.Core.Bool.{true, false}
use native.Mathlib.Omega.{arith}
use Rattle.image.specs.declared.Form.TheVariants.{First}
use Rattle.image.specs.Image.{used_leases, fits_form}
use Rattle.ledger.specs.declared.Answer.{Answer}
use Rattle.call_save.proofs.SaveLaws.{fits_told, names-lost, no_room, made, first-records, first-size}
use Rattle.call_save.proofs.save_first.Goals as goal

pub returns-then-any_named : goal.returns-then-any_named
returns-then-any_named c =
    let a = c.args in
    λ t bytes image p l.
    names-lost First t a.buffer.now (fits_told t true (sym (c.any_named.ensures (used_leases t) (first-records t a.image.now bytes image a.pools p) l) ∙ c.if-any_named.true))

pub returns-then-buffer-from : goal.returns-then-buffer-from
returns-then-buffer-from c =
    let a = c.args in
    λ t bytes image p l.
    no_room First t a.buffer.now (fits_told t false (sym (c.any_named.ensures (used_leases t) (first-records t a.image.now bytes image a.pools p) l) ∙ c.if-any_named.false)) (omega (arith, first-size t a.pools a.leases p l))

pub returns : goal.returns
returns c =
    let a = c.args in
    let out = c.narrow-n.new.buffer in
    λ t bytes image p l.
    let bare : fits_form First t ≡ true = fits_told t false (sym (c.any_named.ensures (used_leases t) (first-records t a.image.now bytes image a.pools p) l) ∙ c.if-any_named.false) in
    let w = c.narrow-n.ensures.value_2 t bytes image bare p l in
    made First t a.buffer.now bare (omega (arith, first-size t a.pools a.leases p l)) c.narrow-n.result w.0 out w.1
