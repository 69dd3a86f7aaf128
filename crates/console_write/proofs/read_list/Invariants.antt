use Prim.Native.Nat.{◌≤◌}
use lib.ListN.{length}
use Rattle.console_write.specs.Inner.{Fits}
use Rattle.console_write.proofs.read_list.Given as goal

abbrev pub invariant-loop : goal.invariant-loop
invariant-loop l = (l.at ≤ length l.s) × Fits l.b
