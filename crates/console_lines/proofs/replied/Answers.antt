-- `replied` meets its contract.
use native.Mathlib.Omega.{arith}
use mathlib.Core.Path.{ap, ◌∙◌}
use Rattle.console_lines.proofs.TextLaws.{wrote_as, filled-wrote, then-wrote, first-bytes}
use Rattle.console_lines.proofs.AnswerLaws.{answer-refused, answer-accepted, reply-line}
use Rattle.console_lines.specs.Lines.{reply_line}
use Prim.Native.Nat.{ℕ, ◌-◌}
use mathlib.Core.List.{List}
use lib.ListN.{take}
use lib.Seq.{length-take-le}
use Rattle.console_lines.proofs.replied.Goals as goal

pub returns-then-a-ne0 : goal.returns-then-a-ne0
returns-then-a-ne0 c = record { upper_bound = omega (arith, c.refusal.ensures.upper_bound); wrote = wrote_as _ _ _ _ _ _ (answer-refused c.args.a (reply_line c.args.a.bytes c.args.a.count (take c.args.a.bytes c.args.reply.now)) c.if-a-ne0.true) c.refusal.ensures.wrote }

pub returns : goal.returns
returns c =
    record {
      upper_bound = omega (arith, c.least-k.ensures.1, c.fill-b.ensures.upper_bound, c.octets.ensures.upper_bound, length-take-le (c.least-k.result - 0) c.args.reply.now (omega arith));
      wrote = wrote_as _ _ _ _ _ _ (reply-line c.args.a.bytes c.args.a.count (take (c.least-k.result - 0) c.args.reply.now) ∙ ap (λ (l : List ℕ). reply_line c.args.a.bytes c.args.a.count l) (first-bytes c.args.a.bytes c.least-k.result c.args.reply.now c.least-k.ensures.2 c.least-k.ensures.3) ∙ answer-accepted c.args.a (reply_line c.args.a.bytes c.args.a.count (take c.args.a.bytes c.args.reply.now)) c.if-a-ne0.false)
          (then-wrote _ _ _ _ _ _ _ _ (filled-wrote _ _ _ _ _ _ (omega arith, (omega arith, tt)) c.fill-b.ensures.filled) c.octets.ensures.wrote);
    }
