-- `image_check::pool_begins` meets its contract.
use mathlib.Core.Path.{◌≡◌, sym, ap, ◌∙◌}
use mathlib.Core.Bool.{and-true}
use native.Mathlib.Nat.{add-zero}
use native.Mathlib.Omega.{arith}
use lib.ListN.{length, drop, length-drop}
use lib.Dec.{eqb}
use borrow.Author.Tests.{le-leb}
use Rattle.image.specs.Fields.{number32}
use Rattle.image.specs.Image.{pool_size}
use Rattle.image_check.specs.Inner.{pool_start}
use Rattle.image.proofs.FieldLaws.{number-from}
use Rattle.image_check.proofs.pool_begins.Goals as goal

pub returns-then-at-s : goal.returns-then-at-s
returns-then-at-s c =
    let a = c.args in
    let u = drop a.at a.s.now in
    let e : c.read32.result ≡ number32 u 0 = c.read32.ensures ∙ ap (number32 a.s.now) (sym (add-zero a.at)) ∙ number-from a.s.now a.at 0 in
    rw (le-leb pool_size (length u) (omega (arith, length-drop a.at a.s.now, c.if-at-s.true))) (ap (λ n. eqb n pool_start) e ∙ sym (and-true (eqb (number32 u 0) pool_start)))
