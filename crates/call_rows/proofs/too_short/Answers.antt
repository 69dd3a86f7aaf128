-- `too_short` meets its contract.
use mathlib.Core.Path.{sym, ap}
use mathlib.Core.Bool.{Bool}
use lib.Dec.{ltb}
use Rattle.ledger.specs.Ledger.{least_for}
use Rattle.call_spec.specs.ImageCalls.{carried_if}
use Rattle.call_rows.proofs.too_short.Goals as goal

pub returns-then-carried : goal.returns-then-carried
returns-then-carried c s = ap (λ (b : Bool). ltb c.args.room (least_for (carried_if b s))) (sym c.if-carried.true)

pub returns : goal.returns
returns c s = ap (λ (b : Bool). ltb c.args.room (least_for (carried_if b s))) (sym c.if-carried.false)
