-- `image_figures::differ` meets its contract.
use mathlib.Core.Path.{sym, ap, ap₂, ◌∙◌}
use lib.Bits.{bit_or, bit_xor, or_zero_l, xor_self}
use Rattle.image_figures.proofs.BlockLaws.{or-none, xor-none}
use Rattle.image_figures.proofs.differ.Goals as goal

pub returns : goal.returns
returns c =
    let a = c.args in (
      λ e. let none = or-none a.before (bit_xor a.a a.b) e in (none.0, xor-none a.a a.b none.1),
      λ z same. ap₂ bit_or z (ap (bit_xor a.a) (sym same) ∙ xor_self a.a) ∙ or_zero_l 0,
    )
