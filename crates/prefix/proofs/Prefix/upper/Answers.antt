-- `Prefix::upper` meets its contract: the upper half of a prefix in the address space starts in it.
use Prim.Native.Nat.{◌+◌}
use native.Mathlib.Omega.{arith}
use Rattle.prefix.specs.declared.Prefix.{Prefix}
use Rattle.prefix.proofs.PrefixLaws.{size-half, size-positive}
use Rattle.prefix.proofs.Prefix.upper.Goals as goal

pub overflow_cast-result : goal.overflow_cast-result
overflow_cast-result c =
    let p : Prefix = c.args.self in
    omega (arith, size-half p.length (omega arith), size-positive (p.length + 1))
