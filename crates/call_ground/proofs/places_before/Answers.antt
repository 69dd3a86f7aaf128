-- `places_before` meets its contract.
use native.Mathlib.Omega.{arith}
use Rattle.call_ground.proofs.RangeLaws.{before-none, before-some}
use Rattle.call_ground.proofs.places_before.Goals as goal

pub returns-then-network-eq0 : goal.returns-then-network-eq0
returns-then-network-eq0 c = let a = c.args in record { upper_bound = omega arith; equation = λ xs records many up. before-none a.network xs c.if-network-eq0.true }

pub returns : goal.returns
returns c = let a = c.args in record { upper_bound = c.place_after.ensures.upper_bound; equation = λ xs records many up. before-some a.network xs _ c.if-network-eq0.false up (c.place_after.ensures.value xs records many up) }
