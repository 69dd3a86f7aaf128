-- Reading pieces one after another from a position on, until a turn stops: what every reader of records does.
use Rattle.std.specs.Prelude.{ℕ, zero, suc, List, [], ◌∷◌}

-- What stands at a position: a piece with the position after it, or the end of the reading with its reason.
pub data Turn (A B : Type 0) : Type 0 where
  more : A → ℕ → Turn A B
  stop : B → Turn A B

abbrev pub on_turn : {A B : Type 0} → Turn A B → (ℕ → List A × B) → List A × B
on_turn (more a next) rest = let r = rest next in (a ∷ r.0, r.1)
on_turn (stop b) rest = ([], b)

-- All the pieces from a position on, in at most so many turns, and the reason of the end. `out` is the reason where the turns run out,
-- which does not happen if there are more of them than positions.
unfoldable pub walk : {A B : Type 0} → (ℕ → Turn A B) → B → ℕ → ℕ → List A × B
walk turn out zero at = ([], out)
walk turn out (suc fuel) at = on_turn (turn at) (λ next. walk turn out fuel next)
