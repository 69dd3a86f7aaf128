-- `names::word_length` meets its contract.
use native.Mathlib.Omega.{arith}
use lib.Count.{leading_le}
use Rattle.names.proofs.WordLaws.{word-zeros}
use Rattle.names.proofs.word_length.Goals as goal

pub overflow_cast-result : goal.overflow_cast-result
overflow_cast-result c = omega (arith, leading_le 64 c.args.w)

pub overflow_sub-result : goal.overflow_sub-result
overflow_sub-result c = omega (arith, leading_le 64 c.args.w)

pub returns : goal.returns
returns c = word-zeros c.args.w (omega arith)
