-- `call_save::save` meets its contract, form by form.
use mathlib.Core.Path.{◌≡◌, sym, ap, subst, ◌∙◌}
use mathlib.Core.List.{[]}
use native.Mathlib.Omega.{arith}
use lib.Seq.{length-take-le}
use borrow.Author.Rules.{rules}
use Rattle.std.specs.Prelude.{Option, Some, None, Result, Err}
use Rattle.table.specs.declared.LeaseTable.{LeaseTable}
use Rattle.image.specs.declared.Form.{Form}
use Rattle.image_check.specs.declared.ImageSummary.{ImageSummary}
use Rattle.ledger.specs.declared.{Accepted.Accepted, Refusal.Refusal}
use Rattle.ledger.specs.declared.Refusal.TheVariants.{NotSound}
use Rattle.ledger.specs.Answers.{answer_of}
use Rattle.ledger.specs.Ledger.{outcome}
use Rattle.ledger.specs.Sizes.{Bytes}
use Rattle.call_spec.specs.ImageCalls.{table_in}
use Rattle.call_spec.specs.Books.{Book, book_of, lent_in}
use Rattle.call_spec.proofs.TableLaws.{bytes-all}
use Rattle.call_rows.specs.InnerSummary.{SummaryIn}
use Rattle.call_save.specs.InnerSaving.{saved_to}
use Rattle.call_save.proofs.SaveLaws.{book-unsound, book-too-many, book-saved, many-told, is-sound, pools-are, leases-are, image-is, within, few, measured}
use Rattle.call_save.proofs.save.Goals as goal

pub returns-in_err-summary : goal.returns-in_err-summary
returns-in_err-summary c =
    let a = c.args in
    let b : Book = book_of a.image.now a.image_bytes [] a.counts.now in
    let is : c.from_residual.result ≡ Err NotSound = search rules in
    let nothing : c.summary_in.result ≡ None = search rules in
    let told = subst (λ (o : Option ImageSummary). SummaryIn (lent_in b) 0 o) nothing (c.summary_in.ensures []) in
    ap (λ (r : Result Accepted Refusal). outcome (answer_of r) b a.buffer.now) is
    ∙ book-unsound b a.form a.older a.buffer.now (sym told.sound)

pub returns-then-too_many : goal.returns-then-too_many
returns-then-too_many c =
    let a = c.args in
    let b : Book = book_of a.image.now a.image_bytes [] a.counts.now in
    let bytes : Bytes a.image.now = bytes-all a.image.now (λ i. omega (arith, c.type_inv.image i)) in
    let x = c.in_ok-summary.summary in
    let is : c.summary_in.result ≡ Some x = search rules in
    let told = subst (λ (o : Option ImageSummary). SummaryIn (lent_in b) 0 o) is (c.summary_in.ensures []) in
    book-too-many b a.form a.older a.buffer.now (is-sound b bytes x told) (many-told b bytes x told a.older c.too_many.result c.too_many.ensures ∙ c.if-too_many.true)

pub save_first-requires : goal.save_first-requires
save_first-requires c =
    let a = c.args in
    let b : Book = book_of a.image.now a.image_bytes [] a.counts.now in
    let bytes : Bytes a.image.now = bytes-all a.image.now (λ i. omega (arith, c.type_inv.image i)) in
    let x = c.in_ok-summary.summary in
    let is : c.summary_in.result ≡ Some x = search rules in
    let told = subst (λ (o : Option ImageSummary). SummaryIn (lent_in b) 0 o) is (c.summary_in.ensures []) in
    measured b bytes x told

pub slice_bounds-save_second-end : goal.slice_bounds-save_second-end
slice_bounds-save_second-end c =
    let a = c.args in
    let b : Book = book_of a.image.now a.image_bytes [] a.counts.now in
    let bytes : Bytes a.image.now = bytes-all a.image.now (λ i. omega (arith, c.type_inv.image i)) in
    let x = c.in_ok-summary.summary in
    let is : c.summary_in.result ≡ Some x = search rules in
    let told = subst (λ (o : Option ImageSummary). SummaryIn (lent_in b) 0 o) is (c.summary_in.ensures []) in
    sym (length-take-le a.image_bytes a.image.now (within b bytes x told))

pub save_second-requires : goal.save_second-requires
save_second-requires c =
    let a = c.args in
    let b : Book = book_of a.image.now a.image_bytes [] a.counts.now in
    let bytes : Bytes a.image.now = bytes-all a.image.now (λ i. omega (arith, c.type_inv.image i)) in
    let x = c.in_ok-summary.summary in
    let is : c.summary_in.result ≡ Some x = search rules in
    let told = subst (λ (o : Option ImageSummary). SummaryIn (lent_in b) 0 o) is (c.summary_in.ensures []) in
    few b bytes x told

pub returns-in-First : goal.returns-in-First
returns-in-First c =
    let a = c.args in
    let b : Book = book_of a.image.now a.image_bytes [] a.counts.now in
    let bytes : Bytes a.image.now = bytes-all a.image.now (λ i. omega (arith, c.type_inv.image i)) in
    let x = c.in_ok-summary.summary in
    let is : c.summary_in.result ≡ Some x = search rules in
    let told = subst (λ (o : Option ImageSummary). SummaryIn (lent_in b) 0 o) is (c.summary_in.ensures []) in
    let t : LeaseTable = table_in (lent_in b) in
    book-saved b a.form a.older a.buffer.now (is-sound b bytes x told) (many-told b bytes x told a.older c.too_many.result c.too_many.ensures ∙ c.if-too_many.false)
    (answer_of c.save_first.result) c.save_first.new.buffer
    (c.save_first.ensures t a.image_bytes (image-is b bytes x told) (pools-are b bytes x told) (leases-are b bytes x told) ∙ ap (λ (f : Form). saved_to f t a.buffer.now) (sym c.in-First.is))

pub returns-in-Second : goal.returns-in-Second
returns-in-Second c =
    let a = c.args in
    let b : Book = book_of a.image.now a.image_bytes [] a.counts.now in
    let bytes : Bytes a.image.now = bytes-all a.image.now (λ i. omega (arith, c.type_inv.image i)) in
    let x = c.in_ok-summary.summary in
    let is : c.summary_in.result ≡ Some x = search rules in
    let told = subst (λ (o : Option ImageSummary). SummaryIn (lent_in b) 0 o) is (c.summary_in.ensures []) in
    let t : LeaseTable = table_in (lent_in b) in
    book-saved b a.form a.older a.buffer.now (is-sound b bytes x told) (many-told b bytes x told a.older c.too_many.result c.too_many.ensures ∙ c.if-too_many.false)
    (answer_of c.save_second.result) c.save_second.new.buffer
    (c.save_second.ensures t (image-is b bytes x told) ∙ ap (λ (f : Form). saved_to f t a.buffer.now) (sym c.in-Second.is))
