-- `for_list` meets its contract.
use mathlib.Core.Path.{ap, sym}
use mathlib.Core.Bool.{Bool, not, ◌&&◌}
use lib.Dec.{eqb}
use borrow.Author.Tests.{eq-eqb, ne_eqb}
use Rattle.call_list.proofs.for_list.Goals as goal

pub returns-then-requests-eq0 : goal.returns-then-requests-eq0
returns-then-requests-eq0 c = let a = c.args in sym (ap (λ (b : Bool). not b && eqb a.listing a.requests) (eq-eqb a.requests 0 c.if-requests-eq0.true))

pub returns : goal.returns
returns c = let a = c.args in sym (ap (λ (b : Bool). not b && eqb a.listing a.requests) (ne_eqb a.requests 0 c.if-requests-eq0.false))
