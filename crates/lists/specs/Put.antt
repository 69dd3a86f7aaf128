-- Elements put into a list from a position on.
use Rattle.std.specs.Prelude.{ℕ, ◌+◌, List, [], ◌∷◌, set}

-- xs stored one after another from a position on; those past the end of the list are dropped, and all other elements stay.
unfoldable pub put : {A : Type 0} → List A → ℕ → List A → List A
put l at [] = l
put l at (x ∷ xs) = put (set l at x) (at + 1) xs
