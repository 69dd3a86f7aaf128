-- `bits` meets its contract.
use mathlib.Core.Path.{sym}
use Rattle.gap_list.proofs.EndLaws.{bits-some, bits_none}
use Rattle.gap_list.proofs.bits.Goals as goal

pub returns-then-low-high : goal.returns-then-low-high
returns-then-low-high c = sym (bits-some c.args.low c.args.high c.if-low-high.true)

pub returns-else-low-high : goal.returns-else-low-high
returns-else-low-high c = sym (bits_none c.args.low c.args.high c.if-low-high.false)
