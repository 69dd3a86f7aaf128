-- `remove_expired` meets its contract.
use native.Mathlib.Omega.{arith}
use Rattle.call_rows.proofs.FinishLaws.{finished-all}
use Rattle.call_rows.proofs.remove_expired.Goals as goal

pub returns-then-expired-eq0 : goal.returns-then-expired-eq0
returns-then-expired-eq0 c xs r counted none =
    let a = c.args in
    finished-all a.image.now a.from a.n a.time xs counted r (none c.if-expired-eq0.true) _ c.put32.ensures

pub returns : goal.returns
returns c xs r counted none = c.remove_expired_between.ensures xs r counted (λ k h gone. (omega arith, omega (arith, counted)))
