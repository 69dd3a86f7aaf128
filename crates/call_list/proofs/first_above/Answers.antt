-- `first_above` meets its contract.
use mathlib.Core.Path.{refl}
use native.Mathlib.Omega.{arith}
use Rattle.call_list.proofs.first_above.Goals as goal

pub returns-in-Some : goal.returns-in-Some
returns-in-Some c = record { upper_bound = c.place_after.ensures.upper_bound; equation = λ xs r e a. rw c.in-Some.is (c.place_after.ensures.value xs r e a) }

pub returns-in-None : goal.returns-in-None
returns-in-None c = record { upper_bound = omega arith; equation = λ xs r e a. rw c.in-None.is refl }
