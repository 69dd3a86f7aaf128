-- `list` meets its contract, row by row.
use mathlib.Core.Path.{◌≡◌, refl, ap, ◌∙◌}
use mathlib.Core.List.{[]}
use borrow.Author.Rules.{rules}
use Rattle.std.specs.Prelude.{Result, Err}
use Rattle.ledger.specs.declared.{Accepted.Accepted, Refusal.Refusal}
use Rattle.ledger.specs.Answers.{answer_of}
use Rattle.ledger.specs.Ledger.{call, outcome, refusal}
use Rattle.call_spec.specs.Books.{book_of, lent_in}
use Rattle.call_list.specs.InnerListing.{Listing}
use Rattle.call_list.proofs.ListLaws.{list-refused, list-unread, list-wrong, list-passed, list-book, listing-lent, listed-book}
use Rattle.call_list.proofs.list.Goals as goal

pub returns-in_err-summary : goal.returns-in_err-summary
returns-in_err-summary c =
    let a = c.args in
    let b = book_of a.image.now a.image_bytes [] a.counts.now in
    let asked = call a.client a.option.now a.reply.now in
    let e = c.in_err-summary.field-0.0 in
    let is : c.from_residual.result ≡ Err e = search rules in
    ap (λ (r : Result Accepted Refusal). outcome (answer_of r) b a.reply.now) is
    ∙ list-book b a.time asked (answer_of (Err e)) a.reply.now (list-refused (lent_in b) a.time asked e c.in_err-summary.ensures)

pub returns-in_err-pieces : goal.returns-in_err-pieces
returns-in_err-pieces c =
    let a = c.args in
    let b = book_of a.image.now a.image_bytes [] a.counts.now in
    let asked = call a.client a.option.now a.reply.now in
    let e = c.in_err-pieces.field-0.0 in
    let is : c.from_residual-in_err-pieces.result ≡ Err e = search rules in
    ap (λ (r : Result Accepted Refusal). outcome (answer_of r) b a.reply.now) is
    ∙ list-book b a.time asked (answer_of (Err e)) a.reply.now
    (list-unread (lent_in b) a.time asked c.in_ok-summary.summary c.in_ok-summary.ensures refl e c.in_err-pieces.ensures)

pub returns-then-not-for_list : goal.returns-then-not-for_list
returns-then-not-for_list c =
    let a = c.args in
    let b = book_of a.image.now a.image_bytes [] a.counts.now in
    let asked = call a.client a.option.now a.reply.now in
    list-book b a.time asked (refusal 8 0) a.reply.now
    (list-wrong (lent_in b) a.time asked c.in_ok-summary.summary c.in_ok-summary.ensures refl c.in_ok-pieces.pieces _ c.in_ok-pieces.ensures c.for_list.result c.for_list.ensures c.if-not-for_list.true)

-- Every row before 11 has passed.
passed : (c : goal.After-show_listed-arg-1) → let a = c.args in
    Listing (lent_in (book_of a.image.now a.image_bytes [] a.counts.now)) a.time (call a.client a.option.now a.reply.now) c.in_ok-summary.summary c.in_ok-pieces.pieces
passed c =
    let a = c.args in
    list-passed (lent_in (book_of a.image.now a.image_bytes [] a.counts.now)) a.time (call a.client a.option.now a.reply.now) c.in_ok-summary.summary c.in_ok-summary.ensures refl
    c.in_ok-pieces.pieces _ c.in_ok-pieces.ensures c.for_list.result c.for_list.ensures c.if-not-for_list.false

-- Every row before 11 has passed.
passed-2 : (c : goal.After-slice_known-2-1) → let a = c.args in
    Listing (lent_in (book_of a.image.now a.image_bytes [] a.counts.now)) a.time (call a.client a.option.now a.reply.now) c.in_ok-summary.summary c.in_ok-pieces.pieces
passed-2 c =
    let a = c.args in
    list-passed (lent_in (book_of a.image.now a.image_bytes [] a.counts.now)) a.time (call a.client a.option.now a.reply.now) c.in_ok-summary.summary c.in_ok-summary.ensures refl
    c.in_ok-pieces.pieces _ c.in_ok-pieces.ensures c.for_list.result c.for_list.ensures c.if-not-for_list.false

pub show_listed-requires : goal.show_listed-requires
show_listed-requires c =
    let a = c.args in
    listing-lent (book_of a.image.now a.image_bytes [] a.counts.now) a.time (call a.client a.option.now a.reply.now) c.in_ok-summary.summary c.in_ok-pieces.pieces (passed c)

pub returns : goal.returns
returns c =
    let a = c.args in
    listed-book (book_of a.image.now a.image_bytes [] a.counts.now) a.time (call a.client a.option.now a.reply.now) c.in_ok-summary.summary c.in_ok-pieces.pieces (passed-2 c)
    (answer_of c.show_listed.result) c.show_listed.new.reply c.show_listed.ensures
