-- `save_second` meets its contract: the image is copied.
use Prim.Native.Nat.{ℕ}
use mathlib.Core.Path.{refl, sym, ap, ◌∙◌}
use mathlib.Core.List.{List, ◌++◌}
use native.Mathlib.Omega.{arith}
use lib.ListN.{length, drop}
use Rattle.image.specs.declared.Form.TheVariants.{Second}
use Rattle.ledger.specs.declared.Answer.{Answer}
use Rattle.call_save.proofs.SaveLaws.{no_room, made}
use Rattle.call_save.proofs.save_second.Goals as goal

pub returns-then-buffer-image : goal.returns-then-buffer-image
returns-then-buffer-image c =
    let out = c.args.buffer.now in
    λ t image. no_room Second t out refl (omega (arith, ap length image))

pub returns : goal.returns
returns c =
    let old = c.args.buffer.now in
    let out = c.copy-size.new.to in
    λ t image.
    made Second t old refl (omega (arith, ap length image)) c.copy-size.result (c.copy-size.ensures.value ∙ ap length (sym image)) out
    (c.copy-size.ensures.to_after ∙ ap (λ (xs : List ℕ). xs ++ drop (length xs) old) (sym image))
