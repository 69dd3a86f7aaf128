-- In a pool no lease opens at a length below the pool's, and none has one.
-- Assumes nothing.
use Prim.Native.Nat.{ℕ, zero, suc, ◌-◌, ◌≤◌, ◌<◌}
use mathlib.Core.Path.{◌≡◌, refl}
use mathlib.Core.List.{List, [], ◌∷◌}
use native.Mathlib.Omega.{arith}
use Rattle.lists.specs.Lists.{All, Pairwise}
use Rattle.lists.proofs.ListLaws.{all_map, all-image}
use Rattle.prefix.specs.declared.Prefix.{Prefix}
use Rattle.prefix.specs.Prefixes.{Aligned, Inside}
use Rattle.prefix.proofs.Nesting.{inside-order}
use Rattle.free_space.specs.Grant.{walk}
use Rattle.free_space.specs.Serving.{number, Before}
use Rattle.free_space.proofs.WalkLaws.{Listed, walk-listed}
use Rattle.counts.specs.InnerLevels.{Lies, up_to, openings_after, openings, lengths}
use Rattle.counts.proofs.OneLaws.{one-not, one-gt, one-over, up_next}
use Rattle.counts.proofs.LevelRow.{counted}

pub number-none : (l : ℕ) (ws : List Prefix) → All (λ w. w.length ≡ l → ⊥) ws → number l ws ≡ 0
number-none l [] a = refl
number-none l (w ∷ ws) a = omega (arith, one-not w.length l a.0, number-none l ws a.1)

up_none : (l : ℕ) (ks : List ℕ) → All (λ k. l < k) ks → up_to l ks ≡ 0
up_none l [] a = refl
up_none l (k ∷ ks) a = omega (arith, one-over k l a.0, up_none l ks a.1)

pub inside-longer : (x p : Prefix) → p.length ≤ 32 → x.length ≤ 32 → Inside x p → p.length ≤ x.length
inside-longer x p long long₁ i = omega (arith, inside-order x p i)

module _ (p : Prefix) (some : 1 ≤ p.length) (long : p.length ≤ 32) (aligned : Aligned p) where
  -- The walk lists no prefix shorter than p.
  pub walk-longer : (leases : List Prefix) → All (λ w. p.length ≤ w.length) (walk leases (32 - p.length) p)
  walk-longer leases =
      all_map (λ w (k : Listed leases p w). inside-longer w p long k.length k.inside) (walk leases (32 - p.length) p) (walk-listed leases (32 - p.length) p (omega arith) aligned)

  module _ (us : List Prefix) (lie : All (Lies p) us) (w : Pairwise Before us) where
    pub closed-above : (l : ℕ) → l < p.length → up_to l (lengths us) ≡ 0
    closed-above l h =
        up_none l (lengths us)
        (all-image (λ x. x.length) (λ k. l < k) us (all_map (λ x (i : Lies p x). omega (arith, inside-longer x p long i.long i.inside)) us lie))

    after-some : (network : ℕ) (xs : List Prefix) → All (λ k. 0 < k) (openings_after network xs)
    after-some network [] = tt
    after-some network (x ∷ xs) = (omega arith, after-some x.network xs)

    opened_some : (xs : List Prefix) → All (λ k. 0 < k) (openings p xs)
    opened_some [] = tt
    opened_some (x ∷ xs) = (omega arith, after-some x.network xs)

    not-that : (l : ℕ) → suc l < p.length → (x : Prefix) → p.length ≤ x.length → x.length ≡ suc l → ⊥
    not-that l h x i e = omega arith

    pub opened-above : (l : ℕ) → l < p.length → up_to l (openings p us) ≡ 0
    opened-above zero h = up_none 0 (openings p us) (opened_some us)
    opened-above (suc l) h =
        omega (
          arith,
          up_next l (openings p us),
          opened-above l (omega arith),
          counted (32 - p.length) p (omega arith) aligned us lie w l,
          one-gt p.length (suc l) h,
          number-none (suc l) (walk us (32 - p.length) p) (all_map (not-that l h) (walk us (32 - p.length) p) (walk-longer us)),
        )
