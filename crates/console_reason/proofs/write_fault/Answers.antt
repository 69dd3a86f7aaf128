-- `write_fault` stays within the line.
use native.Mathlib.Omega.{arith}
use lib.ListN.{length}
use Rattle.console_reason.proofs.FaultLaws.{earlier}
use Rattle.console_reason.proofs.write_fault.Goals as goal

pub returns-then-same : goal.returns-then-same
returns-then-same c =
    let w = c.next_word-w.ensures in
    earlier c.args.from c.next_word-w.result.end (length c.args.s.now) c.line_fault.result (omega (arith, w.later, w.ordered)) c.line_fault.ensures
