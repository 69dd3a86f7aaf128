-- The examples hold, by computation; and the theorems' conditions can be met.
-- Assumes nothing.
use Prim.Native.Nat.{ℕ}
use mathlib.Core.Path.{◌≡◌, refl}
use mathlib.Core.List.{[], ◌∷◌, map, Permᴰ}
use native.Mathlib.Omega.{arith}
use Rattle.prefix.specs.Prefixes.{prefix}
use Rattle.free_space.specs.Grant.{wholes}
use Rattle.free_space.specs.Serving.{Pools, Packing, serve, after}
use Rattle.free_space.specs.Examples.{rows}
use Rattle.free_space.proofs.ListTheorem.{Served, serve-packing}
use Rattle.free_space.proofs.OrderTheorem.{any-order-granted}

examples-hold : map (λ r. serve r.pools [] r.asks) rows ≡ map (λ r. r.granted) rows
examples-hold = refl

-- After P5's first three asks the second /27 of the second /26 is the one whole free prefix.
one_left : wholes (prefix 0x0a000100 24 ∷ []) (after (prefix 0x0a000100 24 ∷ []) [] (26 ∷ 25 ∷ 27 ∷ [])) ≡ prefix 0x0a000160 27 ∷ []
one_left = refl

-- P5's pool meets `Pools`, its asks can be packed, and so they are granted largest first too, leaving as many whole free prefixes of each length.
one-pool : Pools (prefix 0x0a000100 24 ∷ [])
one-pool = record { lengths = (omega arith, tt); aligned = (refl, tt); disjoint = (tt, tt) }

packed : Packing (prefix 0x0a000100 24 ∷ []) [] (26 ∷ 25 ∷ 27 ∷ []) (prefix 0x0a000100 26 ∷ prefix 0x0a000180 25 ∷ prefix 0x0a000140 27 ∷ [])
packed = serve-packing (prefix 0x0a000100 24 ∷ []) one-pool (26 ∷ 25 ∷ 27 ∷ []) [] (prefix 0x0a000100 26 ∷ prefix 0x0a000180 25 ∷ prefix 0x0a000140 27 ∷ []) refl

swapped : Permᴰ {A = ℕ} (26 ∷ 25 ∷ 27 ∷ []) (25 ∷ 26 ∷ 27 ∷ [])
swapped = Permᴰ.swap refl refl

largest-first : Served (prefix 0x0a000100 24 ∷ []) one-pool [] (25 ∷ 26 ∷ 27 ∷ [])
largest-first =
    any-order-granted (prefix 0x0a000100 24 ∷ []) one-pool [] (26 ∷ 25 ∷ 27 ∷ []) (25 ∷ 26 ∷ 27 ∷ [])
    (prefix 0x0a000100 26 ∷ prefix 0x0a000180 25 ∷ prefix 0x0a000140 27 ∷ []) swapped packed
