-- `text::decimal` meets its contract: no number of 32 bits has more than ten digits.
use native.Mathlib.Omega.{arith}
use Rattle.text.proofs.TextLaws.{decimal-room, wrote-decimal}
use Rattle.text.proofs.decimal.Goals as goal

pub number-requires : goal.number-requires
number-requires c = rw c.from.ensures (decimal-room c.args.n c.args.at _ (omega arith) (omega arith))

pub returns : goal.returns
returns c = wrote-decimal (omega arith) (rw c.from.ensures at c.number.ensures)
