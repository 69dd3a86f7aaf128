use Prim.Native.Nat.{◌≤◌}
use lib.ListN.{length}
use Rattle.console_reason.proofs.words_fault.Given as goal

abbrev pub invariant-loop-i : goal.invariant-loop-i
invariant-loop-i l = (l.from ≤ l.at) × (l.at ≤ length l.s)
