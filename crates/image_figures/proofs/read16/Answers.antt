-- `image_figures::read16` meets its contract.
use Rattle.image.specs.Fields.{number16}
use native.Mathlib.Omega.{arith}
use Rattle.image_figures.proofs.read16.Goals as goal

pub returns : goal.returns
unfolding number16
returns c = omega (arith, c.from_le_bytes.ensures)
