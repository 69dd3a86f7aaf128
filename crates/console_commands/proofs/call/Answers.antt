-- `call` meets its contract: in each arm the call of its name.
use Prim.Native.Nat.{ℕ, ◌-◌, ◌≤◌}
use native.Mathlib.Omega.{arith}
use mathlib.Core.Path.{ap, ap₂, ◌∙◌}
use mathlib.Core.List.{[], ◌++◌}
use lib.ListN.{length, take, replicate}
use borrow.Rule.Slice.PartMut.{post_of}
use Rattle.std.specs.Prelude.{is_some}
use Rattle.ledger.specs.Ledger.{Call, call as message}
use Rattle.call_spec.specs.Books.{book_of, ask_book, take_book, list_book}
use Rattle.call_spec.proofs.RepliesOnBooks.{without-sheet}
use Rattle.console_script.specs.declared.OptionCall.TheVariants as command
use Rattle.console_script.specs.Commands.{longest_reply}
use Rattle.console_lines.specs.Lines.{counted_line, replied_line}
use Rattle.console_lines.proofs.TextLaws.{wrote_as}
use Rattle.ledger.specs.Answers.{answer_of}
use Rattle.console_commands.proofs.CommandLaws.{beside, with-selection, call-ran, reply-size, reply-left, part-fits, reply-fits, reply-inside}
use Rattle.console_commands.proofs.call.Goals as goal

pub slice_bounds-replied-end : goal.slice_bounds-replied-end
slice_bounds-replied-end c =
    let n = c.args.s.reply_length in
    part-fits n c.ask-a.new.reply (post_of 0 (n - 0) (replicate {A = ℕ} longest_reply 0)) (c.ask-a.auto.reply ∙ reply-size n c.requires.1)

pub replied-requires : goal.replied-requires
replied-requires c =
    let n = c.args.s.reply_length in
    reply-fits c.args.s.at n (c.ask-a.new.reply ++ post_of 0 (n - 0) (replicate {A = ℕ} longest_reply 0)) c.args.out.now c.requires.0 c.requires.1

pub slice_bounds-replied-end-in-Take : goal.slice_bounds-replied-end-in-Take
slice_bounds-replied-end-in-Take c =
    let n = c.args.s.reply_length in
    part-fits n c.take-a.new.reply (post_of 0 (n - 0) (replicate {A = ℕ} longest_reply 0)) (c.take-a.auto.reply ∙ reply-size n c.requires.1)

pub replied-requires-in-Take : goal.replied-requires-in-Take
replied-requires-in-Take c =
    let n = c.args.s.reply_length in
    reply-fits c.args.s.at n (c.take-a.new.reply ++ post_of 0 (n - 0) (replicate {A = ℕ} longest_reply 0)) c.args.out.now c.requires.0 c.requires.1

pub slice_bounds-replied-end-in-List : goal.slice_bounds-replied-end-in-List
slice_bounds-replied-end-in-List c = part-fits c.args.s.reply_length c.list-a.new.reply (post_of 0 (c.args.s.reply_length - 0) (replicate {A = ℕ} longest_reply 0)) (c.list-a.auto.reply ∙ (reply-size c.args.s.reply_length c.requires.1))

pub replied-requires-in-List : goal.replied-requires-in-List
replied-requires-in-List c = reply-fits c.args.s.at c.args.s.reply_length (c.list-a.new.reply ++ (post_of 0 (c.args.s.reply_length - 0) (replicate {A = ℕ} longest_reply 0))) c.args.out.now c.requires.0 c.requires.1

pub returns-in-Ask : goal.returns-in-Ask
returns-in-Ask c =
    let a = c.args in
    let n = a.s.reply_length in
    let did = c.ask-a in
    let said = c.replied in
    let size = reply-size n c.requires.1 in
    let inside = reply-inside a.s.at n _ a.out.now c.requires.0 c.requires.1 said.result said.ensures.upper_bound in
    let same = did.ensures ∙ with-selection (λ (q : Call). ask_book (book_of a.image.now a.image_bytes.now a.figures.now a.counts.now) a.c.time q) _ _ _ _ _ a.s.selected (is_some a.c.message.selection) c.carried.ensures in record { upper_bound = inside; ran = call-ran _ _ _ _ _ _ _ inside _ command.Ask _ _ _ _ (take (n - 0) (replicate {A = ℕ} longest_reply 0)) did.new.reply c.in-Ask.is size same (wrote_as _ _ _ _ _ _ (ap₂ replied_line c.into.ensures (reply-left n did.new.reply _ (did.auto.reply ∙ size))) said.ensures.wrote) }

pub returns-in-Take : goal.returns-in-Take
returns-in-Take c =
    let a = c.args in
    let n = a.s.reply_length in
    let did = c.take-a in
    let said = c.replied-in-Take in
    let size = reply-size n c.requires.1 in
    let inside = reply-inside a.s.at n _ a.out.now c.requires.0 c.requires.1 said.result said.ensures.upper_bound in
    let same = did.ensures ∙ with-selection (λ (q : Call). take_book (book_of a.image.now a.image_bytes.now a.figures.now a.counts.now) a.c.time q) _ _ _ _ _ a.s.selected (is_some a.c.message.selection) c.carried.ensures in record { upper_bound = inside; ran = call-ran _ _ _ _ _ _ _ inside _ command.Take _ _ _ _ (take (n - 0) (replicate {A = ℕ} longest_reply 0)) did.new.reply c.in-Take.is size same (wrote_as _ _ _ _ _ _ (ap₂ replied_line c.into-in-Take.ensures (reply-left n did.new.reply _ (did.auto.reply ∙ size))) said.ensures.wrote) }

pub returns-in-List : goal.returns-in-List
returns-in-List c =
    let said = c.replied-in-List in
    let inside = reply-inside c.args.s.at c.args.s.reply_length _ c.args.out.now c.requires.0 c.requires.1 said.result said.ensures.upper_bound in record { upper_bound = inside; ran = call-ran _ _ _ _ _ _ _ inside _ command.List _ _ _ _ (take (c.args.s.reply_length - 0) (replicate {A = ℕ} longest_reply 0)) c.list-a.new.reply c.in-List.is (reply-size c.args.s.reply_length c.requires.1) (beside c.args.image.now c.args.image_bytes.now c.args.figures.now c.args.counts.now (λ b. list_book b c.args.c.time (message c.args.c.client c.args.option.now (take (c.args.s.reply_length - 0) (replicate {A = ℕ} longest_reply 0)))) (without-sheet.lists _ _ _ _ _ _) (answer_of c.list-a.result) _ c.list-a.ensures) (wrote_as _ _ _ _ _ _ (ap₂ replied_line c.into-in-List.ensures (reply-left c.args.s.reply_length c.list-a.new.reply _ (c.list-a.auto.reply ∙ (reply-size c.args.s.reply_length c.requires.1)))) said.ensures.wrote) }

pub returns-in-Return : goal.returns-in-Return
returns-in-Return c =
    let said = c.counted in
    let inside : said.result ≤ length c.args.out.now = omega (arith, said.ensures.upper_bound, c.requires.0) in record { upper_bound = inside; ran = call-ran _ _ _ _ _ _ _ inside _ command.Return _ _ _ _ (take (c.args.s.reply_length - 0) (replicate {A = ℕ} longest_reply 0)) [] c.in-Return.is (reply-size c.args.s.reply_length c.requires.1) c.release-a.ensures (wrote_as _ _ _ _ _ _ (ap counted_line c.into-in-Return.ensures) said.ensures.wrote) }
