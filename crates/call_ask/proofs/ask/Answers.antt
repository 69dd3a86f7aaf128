-- `ask` meets its contract, row by row.
use Prim.Native.Nat.{ℕ}
use native.Mathlib.Omega.{arith}
use mathlib.Core.Path.{◌≡◌, refl, sym, ap, subst, ◌∙◌}
use mathlib.Core.Bool.{cond, ◌&&◌}
use lib.Dec.{ltb, eqb}
use lib.ListN.{length, take}
use borrow.Author.Rules.{rules}
use Rattle.std.specs.Prelude.{Result, Err, Some, None}
use Rattle.counts.specs.Counts.{counts_of}
use Rattle.ledger.specs.declared.{Accepted.Accepted, Answer.Answer, Refusal.Refusal}
use Rattle.ledger.specs.Answers.{answer_of}
use Rattle.ledger.specs.Ledger.{Call, call_with, outcome, least_for}
use mathlib.Core.List.{[]}
use Rattle.call_spec.specs.ImageCalls.{lent, table_in, carried_if}
use Rattle.call_spec.specs.Books.{Book, book_of}
use Rattle.call_rows.specs.Admission.{LeftIfAccepted}
use Rattle.call_ground.specs.Ground.{Grounds}
use Rattle.call_ground.proofs.GroundsLaws.{ground-read}
use Rattle.ask_commit.specs.Asking.{Asking}
use Rattle.call_ask.proofs.AskLaws.{may-return, number-kept, ask-refused, ask-unselected, ask-unread, ask-wrong, ask-long-name, ask-groundless, ask-room, ask-admitted, of-admitted, ask-ready, ask-asking, ask-countable, ask-settles}
use Rattle.call_ask.proofs.ask.Goals as goal
use Rattle.call_ask.proofs.ask.Goals.{After-too_short-short, In-Some, After-name_in-name}

-- The book, the call, and row 1.
abbrev book : After-too_short-short → Book
book c = let a = c.args in book_of a.image.now a.image_bytes.now a.figures.now a.counts.now

abbrev asked : After-too_short-short → Call
asked c = let a = c.args in call_with a.message.client a.option.now (carried_if a.message.selected a.selection.now) a.reply.now

short-is : (c : After-too_short-short) → c.too_short-short.result ≡ ltb (length c.args.reply.now) (least_for (asked c).selection)
short-is c = c.too_short-short.ensures c.args.selection.now

pub returns-in_err-summary : goal.returns-in_err-summary
returns-in_err-summary c =
    let w = (goal.at.returns-in_err-summary c).After-too_short-short in
    let e = c.in_err-summary.field-0.0 in
    let is : c.from_residual.result ≡ Err e = search rules in
    ap (λ (r : Result Accepted Refusal). outcome (answer_of r) (book w) c.args.reply.now) is
    ∙ ask-refused (book w) c.args.message.time (asked w) c.too_short-short.result (short-is w) e c.in_err-summary.ensures

pub returns-in_err-address : goal.returns-in_err-address
returns-in_err-address c =
    let w = (goal.at.returns-in_err-address c).After-too_short-short in
    let e = c.in_err-address.field-0.0 in
    let is : c.from_residual-in_err-address.result ≡ Err e = search rules in
    ap (λ (r : Result Accepted Refusal). outcome (answer_of r) (book w) c.args.reply.now) is
    ∙ ask-unselected (book w) c.args.message.time (asked w) c.too_short-short.result (short-is w) c.in_ok-summary.summary c.in_ok-summary.ensures e c.in_err-address.ensures

pub returns-in_err-pieces : goal.returns-in_err-pieces
returns-in_err-pieces c =
    let w = (goal.at.returns-in_err-pieces c).After-too_short-short in
    let e = c.in_err-pieces.field-0.0 in
    let is : c.from_residual-in_err-pieces.result ≡ Err e = search rules in
    ap (λ (r : Result Accepted Refusal). outcome (answer_of r) (book w) c.args.reply.now) is
    ∙ ask-unread (book w) c.args.message.time (asked w) c.too_short-short.result (short-is w) c.in_ok-summary.summary c.in_ok-summary.ensures c.in_ok-address.address c.in_ok-address.ensures e c.in_err-pieces.ensures

pub returns-then-not-for_ask : goal.returns-then-not-for_ask
returns-then-not-for_ask c =
    let w = (goal.at.returns-then-not-for_ask c).After-too_short-short in
    ask-wrong (book w) c.args.message.time (asked w) c.too_short-short.result (short-is w) c.in_ok-summary.summary c.in_ok-summary.ensures c.in_ok-address.address c.in_ok-address.ensures
    c.in_ok-pieces.pieces _ c.in_ok-pieces.ensures c.for_ask.result c.for_ask.ensures c.if-not-for_ask.true

pub returns-then-name_bytes-gt-LONGEST : goal.returns-then-name_bytes-gt-LONGEST
returns-then-name_bytes-gt-LONGEST c =
    let w = (goal.at.returns-then-name_bytes-gt-LONGEST c).After-too_short-short in
    ask-long-name (book w) c.args.message.time (asked w) c.too_short-short.result (short-is w) c.in_ok-summary.summary c.in_ok-summary.ensures c.in_ok-address.address c.in_ok-address.ensures
    c.in_ok-pieces.pieces _ c.in_ok-pieces.ensures c.for_ask.result c.for_ask.ensures c.if-not-for_ask.false c.if-name_bytes-gt-LONGEST.true

pub ground_of-requires : goal.ground_of-requires
ground_of-requires c =
    let w = (goal.at.ground_of-requires c).After-too_short-short in
    of-admitted (book w) c.args.message.time (asked w) c.too_short-short.result (short-is w) c.in_ok-summary.summary c.in_ok-summary.ensures

-- Row 19.
pub returns-in_default : goal.returns-in_default
returns-in_default c =
    let w = (goal.at.returns-in_default c).After-too_short-short in
    let o = ask-admitted (book w) c.args.message.time (asked w) c.too_short-short.result (short-is w) c.in_ok-summary.summary c.in_ok-summary.ensures in
    ask-groundless (book w) c.args.message.time (asked w) c.too_short-short.result (short-is w) c.in_ok-summary.summary c.in_ok-summary.ensures c.in_ok-address.address c.in_ok-address.ensures
    c.in_ok-pieces.pieces _ c.in_ok-pieces.ensures c.for_ask.result c.for_ask.ensures c.if-not-for_ask.false (omega arith)
    (ground-read c.args.image.now c.in_ok-summary.summary c.in_ok-address.address None c.in_default.ensures.equation (book w).lent c.args.message.time (asked w) refl o c.in_ok-address.ensures)

-- The ground of the call.
grounds : (c : In-Some) → let a = c.args in
    Grounds (lent a.image.now a.image_bytes.now a.figures.now) (call_with a.message.client a.option.now (carried_if a.message.selected a.selection.now) a.reply.now) c.in_ok-summary.summary c.in-Some.area
grounds c =
    let a = c.args in
    let b = book_of a.image.now a.image_bytes.now a.figures.now a.counts.now in
    let m = call_with a.message.client a.option.now (carried_if a.message.selected a.selection.now) a.reply.now in
    let o = ask-admitted b a.message.time m c.too_short-short.result (c.too_short-short.ensures a.selection.now) c.in_ok-summary.summary c.in_ok-summary.ensures in
    ground-read a.image.now c.in_ok-summary.summary c.in_ok-address.address (Some c.in-Some.area) c.in-Some.ensures.equation b.lent a.message.time m refl o c.in_ok-address.ensures

pub grant-answer-requires : goal.grant-answer-requires
grant-answer-requires c =
    let w = (goal.at.grant-answer-requires c).After-too_short-short in
    ask-ready (book w) c.args.message.time (asked w) c.too_short-short.result (short-is w) c.in_ok-summary.summary c.in_ok-summary.ensures c.in_ok-address.address c.in_ok-address.ensures
    c.in_ok-pieces.pieces _ c.in_ok-pieces.ensures c.for_ask.result c.for_ask.ensures c.if-not-for_ask.false (omega arith) c.in-Some.area (grounds (goal.at.grant-answer-requires c).In-Some)
    (record {
      asked_lengths = omega (arith, c.read_option.auto.asks);
      asked_h = omega (arith, c.read_option.auto.h);
      networks = omega (arith, c.read_option.auto.networks);
      lengths = omega (arith, c.read_option.auto.lengths);
    })

-- Every row before 9 has passed.
asking : (c : After-name_in-name) → let a = c.args in let m = call_with a.message.client a.option.now (carried_if a.message.selected a.selection.now) a.reply.now in
    let h = lent a.image.now a.image_bytes.now a.figures.now in let n = c.in_ok-pieces.pieces.requests in
    Grounds h m c.in_ok-summary.summary c.in-Some.area
    → Asking h a.message.time c.name_in-name.result m (record { summary = c.in_ok-summary.summary; area = c.in-Some.area }) (take n c.read_option.new.asks) (take n c.read_option.new.h)
asking c g =
    let a = c.args in
    let b = book_of a.image.now a.image_bytes.now a.figures.now a.counts.now in
    let m = call_with a.message.client a.option.now (carried_if a.message.selected a.selection.now) a.reply.now in
    ask-asking b a.message.time m c.too_short-short.result (c.too_short-short.ensures a.selection.now) c.in_ok-summary.summary c.in_ok-summary.ensures c.in_ok-address.address c.in_ok-address.ensures
    c.in_ok-pieces.pieces _ c.in_ok-pieces.ensures c.for_ask.result c.for_ask.ensures c.if-not-for_ask.false (omega arith) c.in-Some.area g c.name_in-name.result c.name_in-name.ensures

pub settle-requires : goal.settle-requires
settle-requires c =
    let w = (goal.at.settle-requires c).After-too_short-short in
    let new = c.grant-answer.new in
    subst (λ (a : Answer). LeftIfAccepted a.number (lent new.image new.image_bytes []) c.in_ok-summary.summary.pools) (sym c.from-number.ensures)
    (ask-countable (book w) c.args.message.time (asked w) c.too_short-short.result (short-is w) c.in_ok-summary.summary c.in_ok-summary.ensures
    c.grant-answer.result (lent new.image new.image_bytes new.figures) new.reply
    (c.grant-answer.ensures.equation (asked w).option (asked w).selection (asking (goal.at.settle-requires c).After-name_in-name (grounds (goal.at.settle-requires c).In-Some))))

pub return_selection-requires : goal.return_selection-requires
return_selection-requires c =
    let w = (goal.at.return_selection-requires c).After-too_short-short in
    let a = c.args in
    let room =
    ask-room (book w) a.message.time (asked w) c.too_short-short.result (short-is w) c.in_ok-summary.summary c.in_ok-summary.ensures c.in_ok-address.address c.in_ok-address.ensures in
    may-return a.message.selected a.selection.now c.in_ok-address.address c.in_ok-address.ensures (answer_of c.grant-answer.result) a.reply.now c.grant-answer.new.reply room
    c.grant-answer.auto.reply c.grant-answer.ensures.bytes_bound

-- Rows 9 and 10, and what is granted.
pub returns : goal.returns
returns c =
    let w = (goal.at.returns c).After-too_short-short in
    let new = c.grant-answer.new in
    let g = lent new.image new.image_bytes new.figures in
    let with_it = c.return_selection.ensures g in
    ask-settles (book w) c.args.message.time (asked w) c.too_short-short.result (short-is w) c.in_ok-summary.summary c.in_ok-summary.ensures c.return_selection.result g c.return_selection.new.reply
    (with_it ∙ c.grant-answer.ensures.equation (asked w).option (asked w).selection (asking (goal.at.returns c).After-name_in-name (grounds (goal.at.returns c).In-Some)))
    c.moved-moved.result c.moved-moved.ensures c.settle.new.counts
    (c.settle.ensures
    ∙ ap (λ (n : ℕ). cond (eqb n 0 && c.moved-moved.result) (counts_of (table_in (lent new.image new.image_bytes []))) (book w).counts)
    (ap (λ (a : Answer). a.number) c.from-number.ensures ∙ number-kept (asked w).selection c.grant-answer.result c.return_selection.result g new.reply c.return_selection.new.reply with_it))
