-- A walk, for any turn that moves forward and stays within a bound: the number of turns does not matter, and a walk unrolls by a turn.
-- Assumes nothing.
use Prim.Native.Nat.{ℕ, zero, suc, ◌+◌, ◌≤◌, ◌<◌}
use native.Mathlib.Omega.{arith}
use mathlib.Core.Path.{◌≡◌, refl, ap, ◌∙◌}
use mathlib.Core.List.{List, [], ◌∷◌, map}
use Rattle.lists.specs.Lists.{All}
use Rattle.lists.specs.Walk.{Turn, more, stop, on_turn, walk}
use Rattle.lists.specs.Properties.{Placed, placed, Tiles}

module _ {A B : Type 0} where
  same_turn : (t : Turn A B) (k l : ℕ → List A × B) → ((a : A) (next : ℕ) → t ≡ more a next → k next ≡ l next) → on_turn t k ≡ on_turn t l
  same_turn (more a next) k l h = ap (λ (r : List A × B). (a ∷ r.0, r.1)) (h a next refl)
  same_turn (stop b) k l h = refl

  -- A turn gives a piece or stops, not both.
  pub more-not-stop : (a : A) (next : ℕ) (b : B) → more a next ≡ stop b → ⊥
  more-not-stop a next b h = let z : ◌≡◌ {A = ℕ} 0 1 = cc in omega arith

  module _ (turn : ℕ → Turn A B) (out : B) (N : ℕ) (moves : (at : ℕ) (a : A) (next : ℕ) → turn at ≡ more a next → (at < next) × (next ≤ N)) where
    enough : (f g at : ℕ) → at ≤ N → N < at + f → N < at + g → walk turn out f at ≡ walk turn out g at
    unfolding walk
    enough zero g at le hf hg = absurd (omega arith)
    enough (suc f) zero at le hf hg = absurd (omega arith)
    enough (suc f) (suc g) at le hf hg =
        same_turn (turn at) (λ next. walk turn out f next) (λ next. walk turn out g next)
        (λ a next e. let m = moves at a next e in enough f g next m.1 (omega arith) (omega arith))

    pub unroll : (at : ℕ) → at ≤ N → walk turn out (suc N) at ≡ on_turn (turn at) (λ next. walk turn out (suc N) next)
    unfolding walk
    unroll at le =
        same_turn (turn at) (λ next. walk turn out N next) (λ next. walk turn out (suc N) next)
        (λ a next e. let m = moves at a next e in enough N (suc N) next m.1 (omega arith) (omega arith))

    pub unroll-more : (at : ℕ) (a : A) (next : ℕ) → at ≤ N → turn at ≡ more a next
        → walk turn out (suc N) at ≡ (a ∷ (walk turn out (suc N) next).0, (walk turn out (suc N) next).1)
    unroll-more at a next le e = unroll at le ∙ ap (λ (t : Turn A B). on_turn t (λ next. walk turn out (suc N) next)) e

    pub unroll-stop : (at : ℕ) (b : B) → at ≤ N → turn at ≡ stop b → walk turn out (suc N) at ≡ ([], b)
    unroll-stop at b le e = unroll at le ∙ ap (λ (t : Turn A B). on_turn t (λ next. walk turn out (suc N) next)) e

-- What a walk with positions says of a walk.
module _ {A B : Type 0} (turn : ℕ → Turn A B) (out : B) where
  abbrev places : ℕ → ℕ → List (Placed A) × B
  places fuel at = walk (λ at. placed at (turn at)) out fuel at

  -- Its pieces are those of the walk.
  same-pieces : (t : Turn A B) (at : ℕ) (k : ℕ → List (Placed A) × B) (l : ℕ → List A × B) → ((next : ℕ) → map (λ (p : Placed A). p.piece) (k next).0 ≡ (l next).0)
      → map (λ (p : Placed A). p.piece) (on_turn (placed at t) k).0 ≡ (on_turn t l).0
  same-pieces (more a next) at k l h = ap (λ (r : List A). a ∷ r) (h next)
  same-pieces (stop b) at k l h = refl

  pub placed-pieces : (fuel at : ℕ) → map (λ (p : Placed A). p.piece) (places fuel at).0 ≡ (walk turn out fuel at).0
  unfolding walk
  placed-pieces zero at = refl
  placed-pieces (suc fuel) at =
      same-pieces (turn at) at (λ next. walk (λ at. placed at (turn at)) out fuel next) (λ next. walk turn out fuel next) (λ next. placed-pieces fuel next)

  -- Each piece is what the turn at its position gives.
  abbrev Given : Placed A → Type 0
  Given p = turn p.at ≡ more p.piece p.next

  all-turn : (at : ℕ) (t : Turn A B) → turn at ≡ t → (k : ℕ → List (Placed A) × B) → ((next : ℕ) → All Given (k next).0) → All Given (on_turn (placed at t) k).0
  all-turn at (more a next) e k h = (e, h next)
  all-turn at (stop b) e k h = tt

  pub placed-given : (fuel at : ℕ) → All (λ (p : Placed A). turn p.at ≡ more p.piece p.next) (places fuel at).0
  unfolding walk
  placed-given zero at = tt
  placed-given (suc fuel) at = all-turn at (turn at) refl (λ next. walk (λ at. placed at (turn at)) out fuel next) (λ next. placed-given fuel next)

  -- If the walk ends well, and a turn does so only at the bound, the pieces tile what lies before it.
  module _ (N : ℕ) (moves : (at : ℕ) (a : A) (next : ℕ) → turn at ≡ more a next → (at < next) × (next ≤ N)) (good : B) (ends : (at : ℕ) → turn at ≡ stop good → N ≤ at) where
    tiles-turn : (at : ℕ) (t : Turn A B) → turn at ≡ t → (k : ℕ → List (Placed A) × B) (l : ℕ → List A × B) → at ≤ N
        → ((next : ℕ) → at < next → next ≤ N → (l next).1 ≡ good → Tiles next (k next).0 N) → (on_turn t l).1 ≡ good → Tiles at (on_turn (placed at t) k).0 N
    tiles-turn at (more a next) e k l le h g = let m = moves at a next e in (refl, h next m.0 m.1 g)
    tiles-turn at (stop b) e k l le h g = let far = ends at (e ∙ ap stop g) in omega arith

    tiles-from : (fuel at : ℕ) → N < at + fuel → at ≤ N → (walk turn out fuel at).1 ≡ good → Tiles at (places fuel at).0 N
    unfolding walk
    tiles-from zero at lt le g = absurd (omega arith)
    tiles-from (suc fuel) at lt le g =
        tiles-turn at (turn at) refl (λ next. walk (λ at. placed at (turn at)) out fuel next) (λ next. walk turn out fuel next) le
        (λ next a b f. tiles-from fuel next (omega arith) b f) g

    pub placed-tiles : (at : ℕ) → at ≤ N → (walk turn out (suc N) at).1 ≡ good → Tiles at (places (suc N) at).0 N
    placed-tiles at le g = tiles-from (suc N) at (omega arith) le g
