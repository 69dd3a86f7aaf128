-- The places of a fault.
-- Assumes nothing.
use Prim.Native.Nat.{ℕ, ◌≤◌}
use Rattle.std.specs.Prelude.{Result, Ok, Err}
use native.Mathlib.Omega.{arith}
use Rattle.console_reason.specs.declared.Fault.{Fault}
use Rattle.console_reason.specs.InnerFaults.{Within}

-- What was looked for from a later place on.
pub earlier : (from later n : ℕ) (r : Result ℕ Fault) → from ≤ later → Within later n r → Within from n r
earlier from later n (Ok next) le w = (omega (arith, w), w.1)
earlier from later n (Err f) le w = w
