-- `mark` meets its contract: the rows that refuse it, what `mark_lease` leaves, and the counts.
use mathlib.Core.Path.{◌≡◌, sym, ap, subst, ◌∙◌}
use mathlib.Core.Bool.{not, cond, ◌&&◌}
use mathlib.Core.List.{[]}
use lib.Dec.{eqb}
use borrow.Author.Rules.{rules}
use borrow.Author.Tests.{eqb-true, not-false}
use Rattle.std.specs.Prelude.{Result, Err}
use Rattle.counts.specs.Counts.{counts_of}
use Rattle.ledger.specs.declared.{Accepted.Accepted, Answer.Answer, Refusal.Refusal}
use Rattle.ledger.specs.Answers.{answer_of}
use Rattle.ledger.specs.Ledger.{outcome}
use Rattle.call_spec.specs.ImageCalls.{lent, table_in}
use Rattle.call_spec.specs.Books.{book_of}
use Rattle.call_rows.specs.Admission.{LeftIfAccepted}
use Rattle.call_mark.proofs.MarkLaws.{book-refused, on-lent, mark-countable, mark-settles}
use Rattle.call_mark.proofs.mark.Goals as goal

pub returns-in_err-summary : goal.returns-in_err-summary
returns-in_err-summary c =
    let a = c.args in
    let b = book_of a.image.now a.image_bytes.now a.figures.now a.counts.now in
    let e = c.in_err-summary.field-0.0 in
    let is : c.from_residual.result ≡ Err e = search rules in
    ap (λ (r : Result Accepted Refusal). outcome (answer_of r) b []) is
    ∙ book-refused b a.time a.network a.length (not (eqb a.deprecated 0)) e c.in_err-summary.ensures

pub mark_lease-answer-requires : goal.mark_lease-answer-requires
mark_lease-answer-requires c =
    let a = c.args in
    on-lent (book_of a.image.now a.image_bytes.now a.figures.now a.counts.now) a.time a.network a.length (not (eqb a.deprecated 0)) c.in_ok-summary.summary c.in_ok-summary.ensures

pub settle-requires : goal.settle-requires
settle-requires c =
    let a = c.args in
    let new = c.mark_lease-answer.new in
    subst (λ (w : Answer). LeftIfAccepted w.number (lent new.image new.image_bytes []) c.in_ok-summary.summary.pools) (sym c.from-number.ensures)
    (mark-countable (book_of a.image.now a.image_bytes.now a.figures.now a.counts.now) a.time a.network a.length (not (eqb a.deprecated 0)) c.in_ok-summary.summary c.in_ok-summary.ensures
    c.mark_lease-answer.result (lent new.image new.image_bytes new.figures) c.mark_lease-answer.ensures)

pub returns : goal.returns
returns c =
    let a = c.args in
    let new = c.mark_lease-answer.new in
    let expired = c.in_ok-summary.summary.expired in
    mark-settles (book_of a.image.now a.image_bytes.now a.figures.now a.counts.now) a.time a.network a.length (not (eqb a.deprecated 0)) c.in_ok-summary.summary c.in_ok-summary.ensures
    c.mark_lease-answer.result (lent new.image new.image_bytes new.figures) c.mark_lease-answer.ensures
    (not (eqb expired 0)) (λ e. eqb-true expired 0 (not-false (eqb expired 0) e)) _
    (c.settle.ensures ∙ ap (λ (w : Answer). cond (eqb w.number 0 && not (eqb expired 0)) (counts_of (table_in (lent new.image new.image_bytes []))) a.counts.now) c.from-number.ensures)
