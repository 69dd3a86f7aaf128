-- Free space as a list of gaps: the ranges of the pools that no lease covers, ascending. An ask looks at the gaps alone, and a grant changes one of them.
use Rattle.std.specs.Prelude.{ℕ, zero, suc, ◌≤◌, cond, List, [], ◌∷◌, ◌++◌, ltb}
use Rattle.std.proofs.Math.Option.{Option, none}
use Rattle.prefix.specs.declared.Prefix.{Prefix}
use Rattle.prefix.specs.Prefixes.{end}
use Rattle.free_space.specs.Scan.{in_gap}

-- The free addresses from `from` on, up to the one before `to`.
pub record Gap : Type 0 where
  pub from : ℕ
  pub to : ℕ

-- The gap between two addresses, if there is one.
abbrev pub between : ℕ → ℕ → List Gap
between a b = cond (ltb a b) (record { from = a; to = b } ∷ []) []

-- The gaps of a pool that ends at `stop`, from an address on, and the leases that are left for the next pool.
pub record PoolGaps : Type 0 where
  pub gaps : List Gap
  pub left : List Prefix

abbrev pub pool_gaps : ℕ → ℕ → List Prefix → PoolGaps
pool_gaps from stop [] = record { gaps = between from stop; left = [] }
pool_gaps from stop (x ∷ xs) =
    let later = pool_gaps (end x) stop xs in
    cond (ltb x.network stop) (record { gaps = between from x.network ++ later.gaps; left = later.left })
    (record { gaps = between from stop; left = x ∷ xs })

-- The gaps of pools and leases, both ascending.
abbrev pub gaps_of : List Prefix → List Prefix → List Gap
gaps_of [] xs = []
gaps_of (p ∷ ps) xs = let s = pool_gaps p.network (end p) xs in s.gaps ++ gaps_of ps s.left

-- The better of `best` and what the gaps have for length l.
abbrev pub fit_from : ℕ → Option Prefix → List Gap → Option Prefix
fit_from l best [] = best
fit_from l best (g ∷ gs) = fit_from l (in_gap l best g.from g.to) gs

abbrev pub fit_in : ℕ → List Gap → Option Prefix
fit_in l gs = fit_from l none gs

-- The gaps after p was taken out of gap i.
abbrev pub without : Prefix → ℕ → List Gap → List Gap
without p i [] = []
without p zero (g ∷ gs) = between g.from p.network ++ (between (end p) g.to ++ gs)
without p (suc i) (g ∷ gs) = g ∷ without p i gs

-- p lies in gap i.
abbrev pub LiesIn : Prefix → ℕ → List Gap → Type 0
LiesIn p i [] = ⊥
LiesIn p zero (g ∷ gs) = (g.from ≤ p.network) × (end p ≤ g.to)
LiesIn p (suc i) (g ∷ gs) = LiesIn p i gs

-- The gaps that are not empty.
abbrev pub solid : List Gap → List Gap
solid [] = []
solid (g ∷ gs) = between g.from g.to ++ solid gs
