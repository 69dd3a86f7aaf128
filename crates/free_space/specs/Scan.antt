-- The search through the gaps between the leases, once, as the code of `gaps` does it. The laws say that it finds what `best` of `Space` does.
use Rattle.std.specs.Prelude.{ℕ, zero, suc, ◌+◌, ◌-◌, ◌%◌, cond, List, [], ◌∷◌, leb, ltb, eqb}
use Rattle.std.proofs.Math.Option.{Option, none, some}
use Rattle.prefix.specs.declared.Prefix.{Prefix}
use Rattle.prefix.specs.Prefixes.{size, prefix, end}

-- The first multiple of a length's size from an address on, and the last one up to it.
abbrev pub round_up : ℕ → ℕ → ℕ
round_up l a = cond (eqb (a % size l) 0) a (a + (size l - a % size l))

abbrev pub round_down : ℕ → ℕ → ℕ
round_down l b = b - b % size l

-- The length of the best prefix so far; 0 where there is none, which is shorter than any.
abbrev pub length_of : Option Prefix → ℕ
length_of none = 0
length_of (some v) = v.length

-- Both ends of the gap from a to b are multiples of the size of the length stop + n. Where one is no multiple of twice that size, the prefix of this
-- length at that end is whole, and no smaller one is in the gap; otherwise look for twice the size. At `stop` nothing better than `best` can come.
abbrev pub levels : ℕ → ℕ → ℕ → ℕ → Option Prefix → Option Prefix
levels a b stop zero best = best
levels a b stop (suc n) best =
    let larger = levels a b stop n best in
    cond (eqb (a % size (stop + n)) 0)
    (cond (eqb (b % size (stop + n)) 0) larger (some (prefix (b - size (stop + suc n)) (stop + suc n))))
    (some (prefix a (stop + suc n)))

-- The better of `best` and what the gap from a to b has for length l.
abbrev pub in_gap : ℕ → Option Prefix → ℕ → ℕ → Option Prefix
in_gap l best a b =
    cond (ltb b (a + size l)) best
    (cond (leb (round_down l b) (round_up l a)) best (levels (round_up l a) (round_down l b) (length_of best) (l - length_of best) best))

-- What is found in a pool that ends at `stop`, from the address `from` on, and the leases that are left for the next pool.
pub record Scan : Type 0 where
  pub best : Option Prefix
  pub left : List Prefix

abbrev pub in_pool : ℕ → Option Prefix → ℕ → ℕ → List Prefix → Scan
in_pool l best from stop [] = record { best = in_gap l best from stop; left = [] }
in_pool l best from stop (x ∷ xs) =
    let later = in_pool l (in_gap l best from x.network) (end x) stop xs in
    cond (ltb x.network stop) later (record { best = in_gap l best from stop; left = x ∷ xs })

abbrev pub in_pools : ℕ → Option Prefix → List Prefix → List Prefix → Option Prefix
in_pools l best [] xs = best
in_pools l best (p ∷ ps) xs = let s = in_pool l best p.network (end p) xs in in_pools l s.best ps s.left
