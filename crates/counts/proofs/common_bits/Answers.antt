-- `counts::common_bits` meets its contract.
use mathlib.Core.Path.{refl}
use lib.Count.{leading_le}
use Rattle.counts.specs.InnerLevels.{common_bits}
use Rattle.counts.proofs.common_bits.Goals as goal

pub returns : goal.returns
unfolding common_bits
returns c = (refl, leading_le 32 _)
