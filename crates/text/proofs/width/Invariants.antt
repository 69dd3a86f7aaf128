use Prim.Native.Nat.{◌+◌, ◌-◌, ◌^◌, ◌≤◌}
use mathlib.Core.Path.{◌≡◌}
use Rattle.text.proofs.width.Given as goal

abbrev pub invariant-loop-size : goal.invariant-loop-size
invariant-loop-size l = (l.power ≡ 10 ^ (l.size - 1)) × (10 ^ (l.size - 1) ≤ l.n + (2 - l.size))
