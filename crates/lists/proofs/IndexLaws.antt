-- What holds of every element holds of the one at an index.
-- Assumes nothing.
use Prim.Native.Nat.{ℕ, zero, suc, ◌<◌}
use native.Mathlib.Omega.{arith}
use mathlib.Core.Path.{◌≡◌}
use mathlib.Core.Bool.{Bool, true}
use mathlib.Core.List.{List, [], ◌∷◌}
use lib.ListN.{length, get_or}
use Rattle.lists.specs.Lists.{All, all?}
use Rattle.lists.proofs.Tests.{all?-to}

pub all-at : {A : Type 0} (P : A → Type 0) (l : List A) → All P l → (i : ℕ) (d : A) → i < length l → P (get_or l i d)
all-at P [] a i d h = absurd (omega arith)
all-at P (x ∷ xs) a zero d h = a.0
all-at P (x ∷ xs) a (suc i) d h = all-at P xs a.1 i d (omega arith)

pub all?-at : {A : Type 0} (f : A → Bool) (l : List A) → all? f l ≡ true → (i : ℕ) (d : A) → i < length l → f (get_or l i d) ≡ true
all?-at f l e i d h = all-at (λ x. f x ≡ true) l (all?-to f (λ x t. t) l e) i d h
