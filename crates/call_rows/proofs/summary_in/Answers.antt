-- `summary_in` meets its contract.
use mathlib.Core.Path.{sym, subst}
use native.Mathlib.Omega.{arith}
use Rattle.std.specs.Prelude.{Option}
use Rattle.image_check.specs.declared.ImageSummary.{ImageSummary}
use Rattle.call_spec.specs.Books.{book_of, lent_in}
use Rattle.call_rows.specs.InnerSummary.{SummaryIn}
use Rattle.call_spec.proofs.TableLaws.{bytes-all}
use Rattle.call_rows.proofs.BookSummary.{book-unsound, summary-some, book-counted, book-differing}
use Rattle.call_rows.proofs.summary_in.Goals as goal

pub returns-in_err-summary : goal.returns-in_err-summary
returns-in_err-summary c figures =
    let a = c.args in
    subst (λ (r : Option ImageSummary). SummaryIn (lent_in (book_of a.image.now a.bytes figures a.counts.now)) a.time r) (sym c.from_residual.ensures)
    (book-unsound a.image.now a.bytes a.counts.now a.time (bytes-all a.image.now (λ i. omega (arith, c.type_inv.image i))) c.in_err-summary.ensures figures)

pub counted-requires : goal.counted-requires
counted-requires c =
    let a = c.args in
    summary-some a.image.now a.bytes a.counts.now a.time (bytes-all a.image.now (λ i. omega (arith, c.type_inv.image i))) c.in_ok-summary.summary c.in_ok-summary.ensures

pub returns-then-not-counted : goal.returns-then-not-counted
returns-then-not-counted c =
    let a = c.args in
    book-differing a.image.now a.bytes a.counts.now a.time (bytes-all a.image.now (λ i. omega (arith, c.type_inv.image i))) c.in_ok-summary.summary c.in_ok-summary.ensures
    c.counted.result c.counted.ensures c.if-not-counted.true

pub returns : goal.returns
returns c =
    let a = c.args in
    book-counted a.image.now a.bytes a.counts.now a.time (bytes-all a.image.now (λ i. omega (arith, c.type_inv.image i))) c.in_ok-summary.summary c.in_ok-summary.ensures
    c.counted.result c.counted.ensures c.if-not-counted.false
