-- The gaps of pools and leases have what `grant` has; and how a walk through pools and leases comes to them, one after the other.
-- Assumes nothing.
use Prim.Native.Nat.{ℕ, ◌+◌, ◌≤◌, ◌<◌}
use mathlib.Core.Path.{◌≡◌, refl, sym, ap, ap₂, ◌∙◌}
use mathlib.Core.Logic.{⊎_elim}
use mathlib.Core.Bool.{Bool, true, false, cond}
use mathlib.Core.List.{List, [], ◌∷◌, ◌++◌, append_assoc}
use mathlib.Core.Option.{Option, none}
use native.Mathlib.Omega.{arith}
use lib.Dec.{ltb}
use borrow.Author.Tests.{ltb-true, ltb-false, lt-ltb, le-ltb}
use Rattle.lists.proofs.Tests.{bool_cases, cond-true, cond-false}
use Rattle.prefix.specs.declared.Prefix.{Prefix}
use Rattle.prefix.specs.Prefixes.{end}
use Rattle.prefix.proofs.PrefixLaws.{size-positive}
use Rattle.free_space.specs.Grant.{best, lowest_part, grant}
use Rattle.free_space.specs.Serving.{Length, Ordered}
use Rattle.free_space.specs.Scan.{length_of, in_gap, Scan, in_pool, in_pools}
use Rattle.free_space.proofs.LevelLaws.{gap-small, gap-exact}
use Rattle.free_space.proofs.ScanLaws.{scan-best}
use Rattle.gap_list.specs.Gaps.{Gap, between, PoolGaps, pool_gaps, gaps_of, fit_from, fit_in}

-- one gap

pub between-some : (a b : ℕ) → a < b → between a b ≡ record { from = a; to = b } ∷ []
between-some a b h = rw (lt-ltb a b h)

pub between_none : (a b : ℕ) → b ≤ a → between a b ≡ []
between_none a b h = rw (le-ltb a b h)

-- A fit over gaps one after the other; one that is exact stays.

pub fit_append : (l : ℕ) (best : Option Prefix) (gs hs : List Gap) → fit_from l best (gs ++ hs) ≡ fit_from l (fit_from l best gs) hs
fit_append l best [] hs = refl
fit_append l best (g ∷ gs) hs = fit_append l (in_gap l best g.from g.to) gs hs

pub fit-exact : (l : ℕ) (best : Option Prefix) (gs : List Gap) → length_of best ≡ l → fit_from l best gs ≡ best
fit-exact l best [] e = refl
fit-exact l best (g ∷ gs) e =
    let same = gap-exact l best g.from g.to e in
    fit-exact l (in_gap l best g.from g.to) gs (ap length_of same ∙ e) ∙ same

-- An empty gap has nothing.
pub fit-between : (l : ℕ) (best : Option Prefix) (a b : ℕ) → fit_from l best (between a b) ≡ in_gap l best a b
fit-between l best a b =
    ⊎_elim (λ (t : ltb a b ≡ true). ap (fit_from l best) (between-some a b (ltb-true a b t)))
    (λ (t : ltb a b ≡ false).
    let h : b ≤ a = ltb-false a b t in
    ap (fit_from l best) (between_none a b h) ∙ sym (gap-small l best a b (omega (arith, size-positive l))))
    (bool_cases (ltb a b))

-- a pool's gaps, as the scan of the pool

record Same (l : ℕ) (best : Option Prefix) (g : PoolGaps) (s : Scan) : Type 0 where
  fits : fit_from l best g.gaps ≡ s.best
  rest : g.left ≡ s.left

pool-same : (l : ℕ) (xs : List Prefix) (best : Option Prefix) (from stop : ℕ) → Same l best (pool_gaps from stop xs) (in_pool l best from stop xs)
pool-same l [] best from stop = record { fits = fit-between l best from stop; rest = refl }
pool-same l (x ∷ xs) best from stop =
    go (ltb x.network stop) (pool_gaps (end x) stop xs) (in_pool l (in_gap l best from x.network) (end x) stop xs) (pool-same l xs (in_gap l best from x.network) (end x) stop)
  where
    go : (t : Bool) (g : PoolGaps) (s : Scan) → Same l (in_gap l best from x.network) g s
        → Same l best (cond t (record { gaps = between from x.network ++ g.gaps; left = g.left }) (record { gaps = between from stop; left = x ∷ xs }))
        (cond t s (record { best = in_gap l best from stop; left = x ∷ xs }))
    go true g s h = record {
      fits =
          fit_append l best (between from x.network) g.gaps
          ∙ ap (λ (o : Option Prefix). fit_from l o g.gaps) (fit-between l best from x.network) ∙ h.fits;
      rest = h.rest;
    }
    go false g s h = record { fits = fit-between l best from stop; rest = refl }

gaps-scan : (l : ℕ) (best : Option Prefix) (ps xs : List Prefix) → fit_from l best (gaps_of ps xs) ≡ in_pools l best ps xs
gaps-scan l best [] xs = refl
gaps-scan l best (p ∷ ps) xs =
    let g : PoolGaps = pool_gaps p.network (end p) xs in
    let h = pool-same l xs best p.network (end p) in
    fit_append l best g.gaps (gaps_of ps g.left)
    ∙ gaps-scan l (fit_from l best g.gaps) ps g.left
    ∙ ap₂ (λ (o : Option Prefix) (ys : List Prefix). in_pools l o ps ys) h.fits h.rest

-- FIT: the lowest part of the best fit in the gaps is what is granted.
pub fit-grants : (pools leases : List Prefix) → Ordered pools leases → (l : ℕ) → Length l → lowest_part l (fit_in l (gaps_of pools leases)) ≡ grant pools leases l
fit-grants pools leases ordered l block = ap (lowest_part l) (gaps-scan l none pools leases ∙ sym (scan-best pools leases ordered l block))

-- THE NEXT LEASE lies in a pool, or past it.

module _ (from stop : ℕ) (x : Prefix) (xs : List Prefix) where
  pub pool-lease : x.network < stop
      → pool_gaps from stop (x ∷ xs) ≡ record { gaps = between from x.network ++ (pool_gaps (end x) stop xs).gaps; left = (pool_gaps (end x) stop xs).left }
  pool-lease h = cond-true (ltb x.network stop) _ _ (lt-ltb x.network stop h)

  pub pool-past : stop ≤ x.network → pool_gaps from stop (x ∷ xs) ≡ record { gaps = between from stop; left = x ∷ xs }
  pool-past h = cond-false (ltb x.network stop) _ _ (le-ltb x.network stop h)

-- A WALK through pools and leases: the gaps that it has yet to come to, at an address of a pool that ends at `stop`, before these pools and leases.
abbrev pub gaps_at : ℕ → ℕ → List Prefix → List Prefix → List Gap
gaps_at from stop ps xs = let s = pool_gaps from stop xs in s.gaps ++ gaps_of ps s.left

module _ (from stop : ℕ) (ps : List Prefix) (x : Prefix) (xs : List Prefix) where
  pub walk-lease : x.network < stop → gaps_at from stop ps (x ∷ xs) ≡ between from x.network ++ gaps_at (end x) stop ps xs
  walk-lease h =
      let s : PoolGaps = pool_gaps (end x) stop xs in
      ap (λ (g : PoolGaps). g.gaps ++ gaps_of ps g.left) (pool-lease from stop x xs h) ∙ append_assoc (between from x.network) s.gaps (gaps_of ps s.left)

  pub walk-pool : stop ≤ x.network → gaps_at from stop ps (x ∷ xs) ≡ between from stop ++ gaps_of ps (x ∷ xs)
  walk-pool h = ap (λ (g : PoolGaps). g.gaps ++ gaps_of ps g.left) (pool-past from stop x xs h)
