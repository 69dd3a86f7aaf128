-- `remove_expired_between` meets its contract.
use Rattle.call_rows.proofs.FinishLaws.{finished-some}
use Rattle.call_rows.proofs.remove_expired_between.Goals as goal

pub returns : goal.returns
returns c xs r counted between =
    let a = c.args in
    let kept = c.remove_expired-kept.ensures.value xs r counted between in
    finished-some a.image.now a.from a.n a.time xs counted c.remove_expired-kept.result _ _ kept.0 kept.1 c.put32.ensures
