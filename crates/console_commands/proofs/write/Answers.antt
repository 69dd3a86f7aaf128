-- `write` meets its contract.
use Prim.Native.Nat.{ℕ, ◌-◌, ◌≤◌}
use native.Mathlib.Omega.{arith}
use mathlib.Core.Path.{ap₂, ◌∙◌}
use mathlib.Core.List.{◌++◌}
use lib.ListN.{length, take, replicate}
use borrow.Rule.Slice.PartMut.{post_of}
use Rattle.console_script.specs.Commands.{longest_reply}
use Rattle.console_lines.specs.Lines.{written_line}
use Rattle.console_lines.proofs.TextLaws.{wrote_as}
use Rattle.console_commands.proofs.CommandLaws.{write-bad, write-of, reply-size, reply-left, part-fits, reply-fits, reply-inside}
use Rattle.console_commands.proofs.write.Goals as goal

pub slice_bounds-written-end : goal.slice_bounds-written-end
slice_bounds-written-end c = part-fits c.args.s.reply_length c.write.new.buffer (post_of 0 (c.args.s.reply_length - 0) (replicate {A = ℕ} longest_reply 0)) (c.write.auto.buffer ∙ (reply-size c.args.s.reply_length c.requires.1))

pub written-requires : goal.written-requires
written-requires c = reply-fits c.args.s.at c.args.s.reply_length (c.write.new.buffer ++ (post_of 0 (c.args.s.reply_length - 0) (replicate {A = ℕ} longest_reply 0))) c.args.out.now c.requires.0 c.requires.1

pub returns-in-None : goal.returns-in-None
returns-in-None c =
    let said = c.error in
    let inside : said.result ≤ length c.args.out.now = omega (arith, said.ensures.upper_bound, c.requires.0) in record { upper_bound = inside; wrote_option = write-bad _ _ _ _ _ _ inside said.ensures.wrote }

pub returns-in-Some : goal.returns-in-Some
returns-in-Some c =
    let said = c.written in
    let inside = reply-inside c.args.s.at c.args.s.reply_length _ c.args.out.now c.requires.0 c.requires.1 said.result said.ensures.upper_bound in record { upper_bound = inside; wrote_option = write-of _ _ _ _ (take (c.args.s.reply_length - 0) (replicate {A = ℕ} longest_reply 0)) _ _ _ _ _ inside (reply-size c.args.s.reply_length c.requires.1) c.in-Some.is c.write.ensures (wrote_as _ _ _ _ _ _ (ap₂ written_line c.into.ensures (reply-left c.args.s.reply_length c.write.new.buffer _ (c.write.auto.buffer ∙ (reply-size c.args.s.reply_length c.requires.1)))) said.ensures.wrote) }
