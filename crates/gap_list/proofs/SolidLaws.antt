-- Empty gaps count for nothing: a search passes over them, and a prefix that lies in a gap lies in one that is not empty.
-- Assumes nothing.
use Prim.Native.Nat.{ℕ, zero, suc}
use mathlib.Core.Path.{◌≡◌, refl, sym, ap, ap₂, subst, ◌∙◌}
use mathlib.Core.Logic.{⊎_elim}
use mathlib.Core.Bool.{Bool, true, false, cond}
use mathlib.Core.List.{List, [], ◌∷◌, ◌++◌, append-nil, append_assoc}
use mathlib.Core.Option.{Option}
use native.Mathlib.Omega.{arith}
use lib.Dec.{ltb}
use borrow.Author.Tests.{ltb-true, ltb-false}
use Rattle.lists.proofs.Tests.{bool_cases}
use Rattle.prefix.specs.declared.Prefix.{Prefix}
use Rattle.prefix.specs.Prefixes.{end}
use Rattle.prefix.proofs.PrefixLaws.{size-positive}
use Rattle.free_space.specs.Scan.{in_gap}
use Rattle.gap_list.specs.Gaps.{Gap, between, PoolGaps, pool_gaps, gaps_of, fit_from, without, LiesIn, solid}
use Rattle.gap_list.proofs.FitLaws.{between-some, between_none, fit_append, fit-between}

solid-between : (a b : ℕ) (hs : List Gap) → solid (between a b ++ hs) ≡ between a b ++ solid hs
solid-between a b hs =
    ⊎_elim (λ (t : ltb a b ≡ true). ap (λ (gs : List Gap). solid (gs ++ hs)) (between-some a b (ltb-true a b t)))
    (λ (t : ltb a b ≡ false).
    let e = between_none a b (ltb-false a b t) in
    ap (λ (gs : List Gap). solid (gs ++ hs)) e ∙ sym (ap (λ (gs : List Gap). gs ++ solid hs) e))
    (bool_cases (ltb a b))

solid-append : (gs hs : List Gap) → solid (gs ++ hs) ≡ solid gs ++ solid hs
solid-append [] hs = refl
solid-append (g ∷ gs) hs =
    let b : List Gap = between g.from g.to in
    ap (λ (ks : List Gap). b ++ ks) (solid-append gs hs) ∙ sym (append_assoc b (solid gs) (solid hs))

-- A search finds the same.
pub fit-solid : (l : ℕ) (best : Option Prefix) (gs : List Gap) → fit_from l best (solid gs) ≡ fit_from l best gs
fit-solid l best [] = refl
fit-solid l best (g ∷ gs) =
    fit_append l best (between g.from g.to) (solid gs)
    ∙ ap (λ (o : Option Prefix). fit_from l o (solid gs)) (fit-between l best g.from g.to)
    ∙ fit-solid l (in_gap l best g.from g.to) gs

-- The gaps of pools and leases are none of them empty.
one-solid : (a b : ℕ) → solid (between a b) ≡ between a b
one-solid a b = sym (ap solid (append-nil (between a b))) ∙ solid-between a b [] ∙ append-nil (between a b)

abbrev Solid : PoolGaps → Type 0
Solid s = solid s.gaps ≡ s.gaps

pool-solid : (from stop : ℕ) (xs : List Prefix) → Solid (pool_gaps from stop xs)
pool-solid from stop [] = one-solid from stop
pool-solid from stop (x ∷ xs) = go (ltb x.network stop) (pool_gaps (end x) stop xs) (pool-solid (end x) stop xs)
  where
    go : (t : Bool) (g : PoolGaps) → Solid g → Solid (cond t (record { gaps = between from x.network ++ g.gaps; left = g.left }) (record { gaps = between from stop; left = x ∷ xs }))
    go true g e = solid-between from x.network g.gaps ∙ ap (λ (hs : List Gap). between from x.network ++ hs) e
    go false g e = one-solid from stop

pub gaps-solid : (ps xs : List Prefix) → solid (gaps_of ps xs) ≡ gaps_of ps xs
gaps-solid [] xs = refl
gaps-solid (p ∷ ps) xs =
    let s : PoolGaps = pool_gaps p.network (end p) xs in
    solid-append s.gaps (gaps_of ps s.left) ∙ ap₂ (λ (gs hs : List Gap). gs ++ hs) (pool-solid p.network (end p) xs) (gaps-solid ps s.left)

-- The place of a gap among those that are not empty, and what is left of these.
pub record LiesSolid (p : Prefix) (i : ℕ) (gs : List Gap) : Type 0 where
  pub index : ℕ
  pub lies : LiesIn p index (solid gs)
  pub split : solid (without p i gs) ≡ without p index (solid gs)

pub lies-solid : (p : Prefix) (i : ℕ) (gs : List Gap) → LiesIn p i gs → LiesSolid p i gs
lies-solid p i [] k = absurd k
lies-solid p zero (g ∷ gs) k =
    let e = between-some g.from g.to (omega (arith, k.0, k.1, size-positive p.length)) in
    record {
      index = zero;
      lies = subst (λ (hs : List Gap). LiesIn p zero (hs ++ solid gs)) (sym e) k;
      split =
          solid-between g.from p.network (between (end p) g.to ++ gs)
          ∙ ap (λ (hs : List Gap). between g.from p.network ++ hs) (solid-between (end p) g.to gs)
          ∙ sym (ap (λ (hs : List Gap). without p zero (hs ++ solid gs)) e);
    }
lies-solid p (suc i) (g ∷ gs) k =
    let m = lies-solid p i gs k in
    let rest : List Gap = without p m.index (solid gs) in
    let step : solid (without p (suc i) (g ∷ gs)) ≡ between g.from g.to ++ rest = ap (λ (hs : List Gap). between g.from g.to ++ hs) m.split in
    ⊎_elim
    (λ (t : ltb g.from g.to ≡ true).
    let e = between-some g.from g.to (ltb-true g.from g.to t) in
    record {
      index = suc m.index;
      lies = subst (λ (hs : List Gap). LiesIn p (suc m.index) (hs ++ solid gs)) (sym e) m.lies;
      split = step ∙ ap (λ (hs : List Gap). hs ++ rest) e ∙ sym (ap (λ (hs : List Gap). without p (suc m.index) (hs ++ solid gs)) e);
    })
    (λ (t : ltb g.from g.to ≡ false).
    let e = between_none g.from g.to (ltb-false g.from g.to t) in
    record {
      index = m.index;
      lies = subst (λ (hs : List Gap). LiesIn p m.index (hs ++ solid gs)) (sym e) m.lies;
      split = step ∙ ap (λ (hs : List Gap). hs ++ rest) e ∙ sym (ap (λ (hs : List Gap). without p m.index (hs ++ solid gs)) e);
    })
    (bool_cases (ltb g.from g.to))
