-- `contains` meets its contract.
use mathlib.Core.Path.{sym, ap, ◌∙◌}
use lib.Dec.{ltb}
use native.Mathlib.Omega.{arith}
use borrow.Author.Tests.{lt-leb}
use Rattle.call_ground.proofs.PoolLaws.{past, reached}
use Rattle.call_ground.proofs.contains.Goals as goal

pub returns-then-p-address : goal.returns-then-p-address
returns-then-p-address c =
    let a = c.args in
    ap (λ x. ltb x c.end.result) c.from.ensures ∙ reached a.address a.p c.if-p-address.true _ _ c.from-then-p-address.ensures c.end.ensures.value

pub returns-else-p-address : goal.returns-else-p-address
returns-else-p-address c = let a = c.args in lt-leb a.p.network a.address (omega arith) ∙ sym (past a.address a.p (omega arith))
