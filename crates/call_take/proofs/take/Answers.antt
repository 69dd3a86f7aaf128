-- `take` meets its contract, row by row.
use mathlib.Core.Path.{◌≡◌, refl, sym, ap, subst, ◌∙◌}
use mathlib.Core.Bool.{not, cond, ◌&&◌}
use mathlib.Core.List.{[]}
use lib.Dec.{eqb}
use borrow.Author.Tests.{eqb-true, not-false}
use Rattle.std.specs.Prelude.{Option as Maybe, Some, None}
use Rattle.counts.specs.Counts.{counts_of}
use Rattle.ledger.specs.declared.Answer.{Answer}
use Rattle.ledger.specs.Answers.{answer_of}
use Rattle.ledger.specs.Ledger.{call_with}
use Rattle.call_spec.specs.ImageCalls.{Lent, lent, table_in, carried_if}
use Rattle.call_spec.specs.Books.{book_of, lent_in}
use Rattle.call_rows.specs.Admission.{LeftIfAccepted}
use Rattle.call_entries.proofs.CallLaws.{as_lent}
use Rattle.call_ground.specs.declared.Ground.{Ground}
use Rattle.call_ground.specs.Ground.{GroundOf}
use Rattle.call_ground.proofs.GroundsLaws.{ground-read}
use Rattle.call_take.proofs.TakeLaws.{lent_call, take-timed, take-passed, take-sized, take-returns, book-refused, book-bad, book-unread, book_call, book-groundless, bytes-fit, take-countable, take-settles}
use borrow.Author.Rules.{rules}
use Rattle.call_take.proofs.take.Goals as goal

pub returns-in_err-summary : goal.returns-in_err-summary
returns-in_err-summary c =
    let a = c.args in
    let b = book_of a.image.now a.image_bytes.now a.figures.now a.counts.now in
    let now = a.message.time in
    let it = call_with a.message.client a.option.now (carried_if a.message.selected a.selection.now) a.reply.now in
    let short = c.too_short-short.ensures a.selection.now in
    book-refused b now it _ short c.in_err-summary.field-0.0 c.in_err-summary.ensures _ (search rules)

pub returns-in_err-address : goal.returns-in_err-address
returns-in_err-address c =
    let a = c.args in
    let b = book_of a.image.now a.image_bytes.now a.figures.now a.counts.now in
    let now = a.message.time in
    let it = call_with a.message.client a.option.now (carried_if a.message.selected a.selection.now) a.reply.now in
    let short = c.too_short-short.ensures a.selection.now in
    book-bad b now it _ short c.in_ok-summary.summary c.in_ok-summary.ensures c.in_err-address.field-0.0 c.in_err-address.ensures _ (search rules)

pub returns-in_err-n : goal.returns-in_err-n
returns-in_err-n c =
    let a = c.args in
    let b = book_of a.image.now a.image_bytes.now a.figures.now a.counts.now in
    let now = a.message.time in
    let it = call_with a.message.client a.option.now (carried_if a.message.selected a.selection.now) a.reply.now in
    let short = c.too_short-short.ensures a.selection.now in
    book-unread b now it _ short c.in_ok-summary.summary c.in_ok-summary.ensures c.in_ok-address.address c.in_ok-address.ensures c.read_entries.new.networks c.read_entries.new.lengths c.in_err-n.field-0.0 c.in_err-n.ensures _ (search rules)

pub ground_of-requires : goal.ground_of-requires
ground_of-requires c =
    let a = c.args in
    let b = book_of a.image.now a.image_bytes.now a.figures.now a.counts.now in
    let now = a.message.time in
    let it = call_with a.message.client a.option.now (carried_if a.message.selected a.selection.now) a.reply.now in
    let short = c.too_short-short.ensures a.selection.now in
    let s = book_call b now it _ short c.in_ok-summary.summary c.in_ok-summary.ensures c.in_ok-address.address c.in_ok-address.ensures _ _ c.in_ok-n.n c.in_ok-n.ensures in
    record { lent = b.lent; time = now; client = it.client; same = refl; admitted = (lent_call b now it s).admits.1 }

pub returns-in_err-area : goal.returns-in_err-area
returns-in_err-area c =
    let a = c.args in
    let b = book_of a.image.now a.image_bytes.now a.figures.now a.counts.now in
    let now = a.message.time in
    let it = call_with a.message.client a.option.now (carried_if a.message.selected a.selection.now) a.reply.now in
    let short = c.too_short-short.ensures a.selection.now in
    let s = book_call b now it _ short c.in_ok-summary.summary c.in_ok-summary.ensures c.in_ok-address.address c.in_ok-address.ensures _ _ c.in_ok-n.n c.in_ok-n.ensures in
    let none : c.ground_of.result ≡ None = search rules in
    let same = ap (λ (h : Lent). h.image) (as_lent _ b now it s) in
    book-groundless b now it _ short c.in_ok-summary.summary c.in_ok-summary.ensures c.in_ok-address.address c.in_ok-address.ensures _ _ c.in_ok-n.n c.in_ok-n.ensures
    (subst (λ (r : Maybe Ground). GroundOf (lent_in b) it c.in_ok-summary.summary r) none (ground-read a.image.now c.in_ok-summary.summary c.in_ok-address.address c.ground_of.result c.ground_of.ensures.equation (lent_in b) now it same s.admits.1 c.in_ok-address.ensures)) _ (search rules)

pub renewal_of-renewal-requires : goal.renewal_of-renewal-requires
renewal_of-renewal-requires c =
    let a = c.args in
    let b = book_of a.image.now a.image_bytes.now a.figures.now a.counts.now in
    let now = a.message.time in
    let it = call_with a.message.client a.option.now (carried_if a.message.selected a.selection.now) a.reply.now in
    let short = c.too_short-short.ensures a.selection.now in
    let s = book_call b now it _ short c.in_ok-summary.summary c.in_ok-summary.ensures c.in_ok-address.address c.in_ok-address.ensures _ _ c.in_ok-n.n c.in_ok-n.ensures in
    take-timed b.lent now it (lent_call b now it s)

pub renew_found-answer-requires : goal.renew_found-answer-requires
renew_found-answer-requires c =
    let a = c.args in
    let b = book_of a.image.now a.image_bytes.now a.figures.now a.counts.now in
    let now = a.message.time in
    let it = call_with a.message.client a.option.now (carried_if a.message.selected a.selection.now) a.reply.now in
    let short = c.too_short-short.ensures a.selection.now in
    let s = book_call b now it _ short c.in_ok-summary.summary c.in_ok-summary.ensures c.in_ok-address.address c.in_ok-address.ensures _ _ c.in_ok-n.n c.in_ok-n.ensures in
    let here : c.ground_of.result ≡ Some c.in_ok-area.area = search rules in
    let g = subst (λ (r : Maybe Ground). GroundOf b.lent it c.in_ok-summary.summary r) here (ground-read a.image.now c.in_ok-summary.summary c.in_ok-address.address c.ground_of.result c.ground_of.ensures.equation b.lent now it refl (lent_call b now it s).admits.1 c.in_ok-address.ensures) in
    take-sized b.lent now it (lent_call b now it s) c.in_ok-area.area g c.renewal_of-renewal.result c.renewal_of-renewal.ensures

pub settle-requires : goal.settle-requires
settle-requires c =
    let a = c.args in
    let b = book_of a.image.now a.image_bytes.now a.figures.now a.counts.now in
    let now = a.message.time in
    let it = call_with a.message.client a.option.now (carried_if a.message.selected a.selection.now) a.reply.now in
    let short = c.too_short-short.ensures a.selection.now in
    let s = book_call b now it _ short c.in_ok-summary.summary c.in_ok-summary.ensures c.in_ok-address.address c.in_ok-address.ensures _ _ c.in_ok-n.n c.in_ok-n.ensures in
    let here : c.ground_of.result ≡ Some c.in_ok-area.area = search rules in
    let g = subst (λ (r : Maybe Ground). GroundOf b.lent it c.in_ok-summary.summary r) here (ground-read a.image.now c.in_ok-summary.summary c.in_ok-address.address c.ground_of.result c.ground_of.ensures.equation b.lent now it refl (lent_call b now it s).admits.1 c.in_ok-address.ensures) in
    let found = c.renew_found-answer in
    let left = lent found.new.image found.new.image_bytes found.new.figures in
    let renewed = found.ensures.equation it.client now c.in_ok-summary.summary c.in_ok-area.area it.selection c.renewal_of-renewal.ensures (take-passed b.lent now it (lent_call b now it s) c.in_ok-area.area g) in
    subst (λ (w : Answer). LeftIfAccepted w.number (lent found.new.image found.new.image_bytes []) c.in_ok-summary.summary.pools) (sym c.from-number.ensures)
    (take-countable b now it s found.result left _ renewed)

pub return_selection-requires : goal.return_selection-requires
return_selection-requires c =
    let a = c.args in
    let b = book_of a.image.now a.image_bytes.now a.figures.now a.counts.now in
    let now = a.message.time in
    let it = call_with a.message.client a.option.now (carried_if a.message.selected a.selection.now) a.reply.now in
    let short = c.too_short-short.ensures a.selection.now in
    let s = book_call b now it _ short c.in_ok-summary.summary c.in_ok-summary.ensures c.in_ok-address.address c.in_ok-address.ensures _ _ c.in_ok-n.n c.in_ok-n.ensures in
    take-returns b.lent now it (lent_call b now it s) a.message.selected a.selection.now refl (answer_of c.renew_found-answer.result)
    (bytes-fit c.renew_found-answer.result c.renew_found-answer.ensures.bytes_bound)
    c.renew_found-answer.new.reply c.renew_found-answer.auto.reply

pub returns : goal.returns
returns c =
    let a = c.args in
    let b = book_of a.image.now a.image_bytes.now a.figures.now a.counts.now in
    let now = a.message.time in
    let it = call_with a.message.client a.option.now (carried_if a.message.selected a.selection.now) a.reply.now in
    let short = c.too_short-short.ensures a.selection.now in
    let s = book_call b now it _ short c.in_ok-summary.summary c.in_ok-summary.ensures c.in_ok-address.address c.in_ok-address.ensures _ _ c.in_ok-n.n c.in_ok-n.ensures in
    let here : c.ground_of.result ≡ Some c.in_ok-area.area = search rules in
    let g = subst (λ (r : Maybe Ground). GroundOf b.lent it c.in_ok-summary.summary r) here (ground-read a.image.now c.in_ok-summary.summary c.in_ok-address.address c.ground_of.result c.ground_of.ensures.equation b.lent now it refl (lent_call b now it s).admits.1 c.in_ok-address.ensures) in
    let found = c.renew_found-answer in
    let left = lent found.new.image found.new.image_bytes found.new.figures in
    let renewed = found.ensures.equation it.client now c.in_ok-summary.summary c.in_ok-area.area it.selection c.renewal_of-renewal.ensures (take-passed b.lent now it (lent_call b now it s) c.in_ok-area.area g) in
    let expired = c.in_ok-summary.summary.expired in
    take-settles b now it s found.result left _ renewed (not (eqb expired 0)) (λ e. eqb-true expired 0 (not-false (eqb expired 0) e)) _
    (c.settle.ensures ∙ ap (λ (w : Answer). cond (eqb w.number 0 && not (eqb expired 0)) (counts_of (table_in (lent found.new.image found.new.image_bytes []))) a.counts.now) c.from-number.ensures)
    c.return_selection.result _ (c.return_selection.ensures left)
