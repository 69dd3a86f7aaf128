-- `release` meets its contract, row by row.
use Prim.Native.Nat.{ℕ}
use mathlib.Core.Path.{◌≡◌, refl, sym, ap, subst, ◌∙◌}
use mathlib.Core.Bool.{false, true, cond, ◌&&◌}
use mathlib.Core.List.{List, []}
use lib.Dec.{eqb}
use borrow.Author.Rules.{rules}
use Rattle.std.specs.Prelude.{Result, Ok, Err}
use Rattle.image_check.specs.declared.ImageSummary.{ImageSummary}
use Rattle.counts.specs.Counts.{counts_of}
use Rattle.ledger.specs.declared.{Accepted.Accepted, Answer.Answer, Refusal.Refusal}
use Rattle.ledger.specs.Answers.{answer_of}
use Rattle.ledger.specs.Ledger.{call, outcome}
use Rattle.call_spec.specs.ImageCalls.{lent, table_in}
use Rattle.call_spec.specs.Books.{Book, book_of, lent_in}
use Rattle.call_rows.specs.Admission.{Admits, LeftIfAccepted}
use Rattle.call_entries.specs.EntryRows.{EntriesRead}
use Rattle.call_entries.proofs.CallLaws.{EntriesCall, entries-sized, on-lent}
use Rattle.call_release.proofs.ReleaseLaws.{release-passed, book-refused, book-unread, release-countable, release-settles}
use Rattle.call_release.proofs.release.Goals as goal

-- It is admitted, and its entries are read.
abbrev entries-call : (b : Book) (now client : ℕ) (option : List ℕ) (summary : ImageSummary) → Admits true false (lent_in b) now client (Ok summary)
    → (networks lengths : List ℕ) (n : ℕ) → EntriesRead option networks lengths n → EntriesCall false (lent_in b) now (call client option [])
entries-call b now client option summary admits networks lengths n reads =
    record { summary = summary; admits = admits; selected = refl; networks = networks; lengths = lengths; count = n; reads = reads }

pub returns-in_err-summary : goal.returns-in_err-summary
returns-in_err-summary c =
    let a = c.args in
    let b = book_of a.image.now a.image_bytes.now a.figures.now a.counts.now in
    let e = c.in_err-summary.field-0.0 in
    let is : c.from_residual.result ≡ Err e = search rules in
    ap (λ (r : Result Accepted Refusal). outcome (answer_of r) b []) is
    ∙ book-refused b a.time (call a.client a.option.now []) e c.in_err-summary.ensures

pub returns-in_err-n : goal.returns-in_err-n
returns-in_err-n c =
    let a = c.args in
    let b = book_of a.image.now a.image_bytes.now a.figures.now a.counts.now in
    let e = c.in_err-n.field-0.0 in
    let is : c.from_residual-in_err-n.result ≡ Err e = search rules in
    ap (λ (r : Result Accepted Refusal). outcome (answer_of r) b []) is
    ∙ book-unread b a.time (call a.client a.option.now []) c.in_ok-summary.summary c.in_ok-summary.ensures refl c.read_entries.new.networks c.read_entries.new.lengths e c.in_err-n.ensures

pub strike_found-answer-requires : goal.strike_found-answer-requires
strike_found-answer-requires c =
    let a = c.args in
    let b = book_of a.image.now a.image_bytes.now a.figures.now a.counts.now in
    let asked = call a.client a.option.now [] in
    let s = entries-call b a.time a.client a.option.now c.in_ok-summary.summary c.in_ok-summary.ensures c.read_entries.new.networks c.read_entries.new.lengths c.in_ok-n.n c.in_ok-n.ensures in
    entries-sized false b.lent a.time asked [] (on-lent false b a.time asked s)

pub settle-requires : goal.settle-requires
settle-requires c =
    let a = c.args in
    let b = book_of a.image.now a.image_bytes.now a.figures.now a.counts.now in
    let asked = call a.client a.option.now [] in
    let s = entries-call b a.time a.client a.option.now c.in_ok-summary.summary c.in_ok-summary.ensures c.read_entries.new.networks c.read_entries.new.lengths c.in_ok-n.n c.in_ok-n.ensures in
    let answer = c.strike_found-answer in
    subst (λ (w : Answer). LeftIfAccepted w.number (lent answer.new.image answer.new.image_bytes []) c.in_ok-summary.summary.pools) (sym c.from-number.ensures)
    (release-countable b a.time asked s answer.result (lent answer.new.image answer.new.image_bytes answer.new.figures)
    (answer.ensures a.option.now (release-passed b.lent a.time asked (on-lent false b a.time asked s))))

pub returns : goal.returns
returns c =
    let a = c.args in
    let b = book_of a.image.now a.image_bytes.now a.figures.now a.counts.now in
    let asked = call a.client a.option.now [] in
    let s = entries-call b a.time a.client a.option.now c.in_ok-summary.summary c.in_ok-summary.ensures c.read_entries.new.networks c.read_entries.new.lengths c.in_ok-n.n c.in_ok-n.ensures in
    let answer = c.strike_found-answer in
    release-settles b a.time asked s answer.result (lent answer.new.image answer.new.image_bytes answer.new.figures)
    (answer.ensures a.option.now (release-passed b.lent a.time asked (on-lent false b a.time asked s))) _
    (c.settle.ensures ∙ ap (λ (w : Answer). cond (eqb w.number 0 && true) (counts_of (table_in (lent answer.new.image answer.new.image_bytes []))) a.counts.now) c.from-number.ensures)
