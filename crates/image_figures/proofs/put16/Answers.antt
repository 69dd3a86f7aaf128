-- `image_figures::put16` meets its contract.
use Prim.Native.Nat.{ℕ, ◌/◌, ◌%◌}
use mathlib.Core.Path.{◌≡◌, ap, ◌∙◌}
use mathlib.Core.List.{[], ◌∷◌}
use native.Mathlib.Omega.{arith}
use Rattle.lists.specs.Put.{put}
use Rattle.image.specs.Image.{le16}
use Rattle.image_figures.proofs.put16.Goals as goal

pub returns : goal.returns
unfolding le16
returns c =
    let n = c.args.n in
    let high : n / 256 % 256 ≡ n / 256 = omega (arith, c.ranges.n.fits) in
    c.put_chunk.ensures ∙ ap (put c.args.out.now c.args.at) (c.to_le_bytes.ensures ∙ ap (λ (h : ℕ). n % 256 ∷ h ∷ []) high)
