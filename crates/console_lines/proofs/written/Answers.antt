-- `written` meets its contract.
use native.Mathlib.Omega.{arith}
use mathlib.Core.Path.{ap, ◌∙◌}
use Rattle.console_lines.proofs.TextLaws.{wrote_as, filled-wrote, then-wrote, first-bytes}
use Rattle.console_lines.proofs.AnswerLaws.{answer-refused, answer-accepted, bytes-line}
use Rattle.console_lines.specs.Lines.{bytes_line}
use Prim.Native.Nat.{ℕ, ◌-◌}
use mathlib.Core.List.{List}
use lib.ListN.{take}
use lib.Seq.{length-take-le}
use Rattle.console_lines.proofs.written.Goals as goal

pub returns-then-a-ne0 : goal.returns-then-a-ne0
returns-then-a-ne0 c = record { upper_bound = omega (arith, c.refusal.ensures.upper_bound); wrote = wrote_as _ _ _ _ _ _ (answer-refused c.args.a (bytes_line c.args.a.bytes (take c.args.a.bytes c.args.buffer.now)) c.if-a-ne0.true) c.refusal.ensures.wrote }

pub returns : goal.returns
returns c =
    record {
      upper_bound = omega (arith, c.least-k.ensures.1, c.fill-b.ensures.upper_bound, c.octets.ensures.upper_bound, length-take-le (c.least-k.result - 0) c.args.buffer.now (omega arith));
      wrote = wrote_as _ _ _ _ _ _ (bytes-line c.args.a.bytes (take (c.least-k.result - 0) c.args.buffer.now) ∙ ap (λ (l : List ℕ). bytes_line c.args.a.bytes l) (first-bytes c.args.a.bytes c.least-k.result c.args.buffer.now c.least-k.ensures.2 c.least-k.ensures.3) ∙ answer-accepted c.args.a (bytes_line c.args.a.bytes (take c.args.a.bytes c.args.buffer.now)) c.if-a-ne0.false)
          (then-wrote _ _ _ _ _ _ _ _ (filled-wrote _ _ _ _ _ _ (omega arith, tt) c.fill-b.ensures.filled) c.octets.ensures.wrote);
    }
