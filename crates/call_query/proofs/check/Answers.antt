-- `check` meets its contract.
use mathlib.Core.Path.{◌≡◌, ap, subst, ◌∙◌}
use mathlib.Core.List.{[]}
use native.Mathlib.Omega.{arith}
use borrow.Author.Rules.{rules}
use Rattle.std.specs.Prelude.{Option, Some, None, Err}
use Rattle.image_check.specs.declared.ImageSummary.{ImageSummary}
use Rattle.ledger.specs.declared.Refusal.TheVariants.{NotSound}
use Rattle.ledger.specs.Answers.{answer_of}
use Rattle.call_spec.specs.Books.{book_of, lent_in}
use Rattle.call_spec.proofs.TableLaws.{bytes-all}
use Rattle.call_rows.specs.InnerSummary.{SummaryIn}
use Rattle.call_query.proofs.QueryLaws.{check-refused, check-accepted}
use Rattle.call_query.proofs.check.Goals as goal

pub returns-in_err-ok_or : goal.returns-in_err-ok_or
returns-in_err-ok_or c =
    let a = c.args in
    let b = book_of a.image.now a.image_bytes [] a.counts.now in
    let is : c.from_residual.result ≡ Err NotSound = search rules in
    let nothing : c.summary_in.result ≡ None = search rules in
    ap answer_of is ∙ check-refused b (subst (λ (o : Option ImageSummary). SummaryIn (lent_in b) 0 o) nothing (c.summary_in.ensures []))

pub returns : goal.returns
returns c =
    let a = c.args in
    let b = book_of a.image.now a.image_bytes [] a.counts.now in
    let x = c.in_ok-ok_or.field-0 in
    let is : c.summary_in.result ≡ Some x = search rules in
    check-accepted b (bytes-all a.image.now (λ i. omega (arith, c.type_inv.image i))) x (subst (λ (o : Option ImageSummary). SummaryIn (lent_in b) 0 o) is (c.summary_in.ensures []))
