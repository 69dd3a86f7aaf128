-- `image::leased_at` meets its contract.
use Prim.Native.Nat.{ℕ}
use mathlib.Core.Path.{ap}
use lib.Dec.{eqb}
use Rattle.image.proofs.FieldLaws.{byte-from}
use Rattle.image.proofs.leased_at.Goals as goal

pub returns : goal.returns
returns c = let a = c.args in ap (λ (n : ℕ). eqb n 2) (byte-from a.image.now a.at 9)
