-- `read_number` meets its contract, digit by digit.
use mathlib.Core.Path.{sym, ◌∙◌}
use native.Mathlib.Omega.{arith}
use Rattle.std.proofs.Common.{rules}
use Rattle.console_words.proofs.NumberLaws.{reading-other, reading-over, reading-all, number-none}
use Rattle.console_words.proofs.read_number.Goals as goal

pub returns-then-is_empty : goal.returns-then-is_empty
returns-then-is_empty c = number-none _ (search rules)

pub returns-then-not-is_digit : goal.returns-then-not-is_digit
returns-then-not-is_digit c = reading-other _ _ _ c.loop-c.invariant (omega arith) (sym c.is_digit.ensures ∙ c.if-not-is_digit.true)

pub returns-then-from-n : goal.returns-then-from-n
returns-then-from-n c = reading-over _ _ _ c.loop-c.invariant (omega arith) _ c.from.ensures (omega arith)

pub returns : goal.returns
returns c = reading-all _ _ _ c.loop-c.invariant (search rules) (omega arith)
