-- `prefix::offset` meets its contract: a mask of the low bits is the remainder by their power of two.
use Prim.Native.Nat.{ℕ, ◌-◌}
use mathlib.Core.Path.{ap, ◌∙◌}
use native.Mathlib.Omega.{arith}
use lib.Bits.{bit_and, and_mask}
use Rattle.prefix.proofs.PrefixLaws.{size-positive}
use Rattle.prefix.proofs.offset.Goals as goal

pub overflow_sub-result : goal.overflow_sub-result
overflow_sub-result c = omega (arith, size-positive c.args.length)

pub returns : goal.returns
returns c =
    ap (λ (s : ℕ). bit_and c.args.address (s - 1)) c.size.ensures.value
    ∙ and_mask c.args.address (32 - c.args.length)
