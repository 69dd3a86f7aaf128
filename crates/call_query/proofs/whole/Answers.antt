-- `whole` meets its contract.
use Prim.Native.Nat.{ℕ}
use mathlib.Core.Path.{◌≡◌, ap, ◌∙◌}
use mathlib.Core.List.{[]}
use borrow.Author.Rules.{rules}
use Rattle.std.specs.Prelude.{Ok, Err}
use Rattle.ledger.specs.Answers.{answer_of}
use Rattle.ledger.specs.Ledger.{acceptance}
use Rattle.call_spec.specs.Books.{book_of}
use Rattle.call_query.proofs.QueryLaws.{whole-refused, whole-accepted}
use Rattle.call_query.proofs.whole.Goals as goal

pub returns-in_err-check : goal.returns-in_err-check
returns-in_err-check c =
    let a = c.args in
    let e = c.in_err-check.field-0.0 in
    let is : c.from_residual.result ≡ Err e = search rules in
    let was : c.check.result ≡ Err e = search rules in
    ap answer_of is ∙ whole-refused (book_of a.image.now a.image_bytes [] a.counts.now) a.length c.check.result c.check.ensures e was

pub returns : goal.returns
returns c =
    let a = c.args in
    let x = c.in_ok-check.field-0 in
    let was : c.check.result ≡ Ok x = search rules in
    ap (λ (n : ℕ). acceptance 0 n) c.sum.ensures ∙ whole-accepted (book_of a.image.now a.image_bytes [] a.counts.now) a.length c.check.result c.check.ensures x was
