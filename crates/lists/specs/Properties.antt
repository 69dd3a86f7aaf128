-- What theorems say of lists, and no contract does.
use Rattle.std.specs.Prelude.{ℕ, ◌≤◌, ◌≡◌, List, [], ◌∷◌}
use Rattle.lists.specs.Walk.{Turn, more, stop}
use Rattle.std.proofs.Math.Option.{Option, none, some}
use Rattle.lists.specs.Lists.{Pairwise}

-- A piece with its position and the position after it.
pub record Placed (A : Type 0) : Type 0 where
  pub at : ℕ
  pub piece : A
  pub next : ℕ

-- The same turn, its piece with its positions.
abbrev pub placed : {A B : Type 0} → ℕ → Turn A B → Turn (Placed A) B
placed at (more a next) = more (record { at = at; piece = a; next = next }) next
placed at (stop b) = stop b

-- The pieces follow one another without a gap from a position to another.
abbrev pub Tiles : {A : Type 0} → ℕ → List (Placed A) → ℕ → Type 0
Tiles at [] end = at ≡ end
Tiles at (p ∷ ps) end = (p.at ≡ at) × Tiles p.next ps end

-- P holds of what is there.
abbrev pub OfSome : {A : Type 0} → (A → Type 0) → Option A → Type 0
OfSome P none = Unit {0}
OfSome P (some x) = P x

-- No key is above a later one.
abbrev pub Sorted : {A : Type 0} → (A → ℕ) → List A → Type 0
Sorted key xs = Pairwise (λ a b. key a ≤ key b) xs
