-- `image_summary` meets its contract.
use mathlib.Core.Path.{sym}
use native.Mathlib.Omega.{arith}
use lib.Seq.{length-take-le}
use borrow.Author.Rules.{rules}
use Rattle.call_spec.specs.ImageCalls.{lent}
use Rattle.call_spec.proofs.TableLaws.{bytes-all}
use Rattle.call_rows.proofs.SummaryLaws.{summary-of-nothing, summary-of-image, holds-not-full, holds-not-within}
use Rattle.call_rows.proofs.image_summary.Goals as goal

pub returns-then-image-lt-FULL_IMAGE : goal.returns-then-image-lt-FULL_IMAGE
returns-then-image-lt-FULL_IMAGE c figures =
    let a = c.args in
    let h = lent a.image.now a.bytes figures in
    summary-of-nothing h a.time (bytes-all a.image.now (λ i. omega (arith, c.type_inv.image i))) (holds-not-full h c.if-image-lt-FULL_IMAGE.true)

pub returns-then-image-bytes : goal.returns-then-image-bytes
returns-then-image-bytes c figures =
    let a = c.args in
    let h = lent a.image.now a.bytes figures in
    summary-of-nothing h a.time (bytes-all a.image.now (λ i. omega (arith, c.type_inv.image i))) (holds-not-within h (omega arith) c.if-image-bytes.true)

pub returns : goal.returns
returns c figures =
    let a = c.args in
    summary-of-image (lent a.image.now a.bytes figures) a.time (bytes-all a.image.now (λ i. omega (arith, c.type_inv.image i))) c.check.result (omega arith) c.if-image-bytes.false c.check.ensures
