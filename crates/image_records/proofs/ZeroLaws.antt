-- Laws of zeros put one after another.
-- Assumes nothing.
use Prim.Native.Nat.{ℕ, ◌+◌, ◌-◌, ◌≤◌}
use mathlib.Core.Path.{◌≡◌, refl, sym, ap, ◌∙◌}
use mathlib.Core.List.{List, [], ◌∷◌, ◌++◌}
use native.Mathlib.Omega.{arith}
use lib.ListN.{length, set, replicate, length-replicate, replicate-append-replicate}
use Rattle.lists.specs.Put.{put}
use Rattle.lists.proofs.PutLaws.{set_more}

pub zeros-none : (l : List ℕ) (from : ℕ) → l ≡ put l from (replicate (from - from) 0)
unfolding put
zeros-none l from = let z : from - from ≡ 0 = omega arith in sym (ap (λ (k : ℕ). put l from (replicate k 0)) z)

pub zeros-more : (l l₁ : List ℕ) (from i : ℕ) → from ≤ i → l₁ ≡ put l from (replicate (i - from) 0) → set l₁ i 0 ≡ put l from (replicate (i + 1 - from) 0)
zeros-more l l₁ from i le e =
    let zs : List ℕ = replicate (i - from) 0 in
    let size : length zs ≡ i - from = length-replicate (i - from) 0 in
    let one : zs ++ 0 ∷ [] ≡ replicate (i - from + 1) 0 = replicate-append-replicate (i - from) 1 0 in
    let more : i - from + 1 ≡ i + 1 - from = omega arith in
    set_more l l₁ (set l₁ i 0) from zs i 0 e (omega arith) refl ∙ ap (put l from) one ∙ ap (λ (n : ℕ). put l from (replicate n 0)) more
