-- `run_script` keeps room in the output, and the line within its space. The measure is the number of turns left.
use Rattle.std.proofs.Common.{◌≤◌, length}
use Rattle.console_script.specs.Commands.{longest_reply}
use Rattle.console.proofs.run_script.Given as goal

abbrev pub invariant-loop-turns : goal.invariant-loop-turns
invariant-loop-turns g l =
    (l.s.at ≤ length l.out) × (l.s.reply_length ≤ longest_reply)
    × (l.r.from ≤ l.r.to) × (l.r.to ≤ length l.input) × (l.r.pending ≤ length l.line)

abbrev pub decreases-loop-turns : goal.decreases-loop-turns
decreases-loop-turns g l = l.turns
