use Prim.Native.Nat.{◌-◌, ◌≤◌}
use Rattle.ask_again.specs.InnerGiving.{Past}
use Rattle.ask_again.proofs.next_held.Given as goal

abbrev pub invariant-loop-k : goal.invariant-loop-k
invariant-loop-k l = (l.k ≤ l.n) × Past l.image l.from l.asker.client l.asker.time l.i l.k

abbrev pub decreases-loop-k : goal.decreases-loop-k
decreases-loop-k l = l.n - l.k

abbrev pub invariant-loop-m : goal.invariant-loop-m
invariant-loop-m l = (l.m ≤ l.n) × Past l.image l.from l.asker.client l.asker.time l.i l.m
