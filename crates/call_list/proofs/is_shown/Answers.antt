-- `is_shown` meets its contract, test by test.
use borrow.Author.Tests.{eq-eqb, ne_eqb, not-true, not-false}
use Rattle.call_list.proofs.is_shown.Goals as goal

pub returns-then-x-client : goal.returns-then-x-client
returns-then-x-client c = simp (ne_eqb _ _ c.if-x-client.true)

pub returns-then-not-x : goal.returns-then-not-x
returns-then-not-x c = simp (eq-eqb _ _ c.if-x-client.false, not-true c.args.x.leased c.if-not-x.true)

pub returns : goal.returns
returns c = simp (eq-eqb _ _ c.if-x-client.false, not-false c.args.x.leased c.if-not-x.false)
