-- What the reader answers can be given to the writer: an entry's fields, as the reader holds them, stand for the entry that was read.
-- Assumes nothing.
use Prim.Native.Nat.{ℕ, ◌≤◌}
use native.Mathlib.Omega.{arith}
use mathlib.Core.Path.{◌≡◌, refl, ap}
use mathlib.Core.List.{List, [], ◌∷◌}
use lib.ListN.{length}
use Rattle.option.specs.Values.{Entry}
use Rattle.option.specs.Answers.{figures_of, fields_of}
use Rattle.option_measure.specs.Lists.{figures_in, entry_of}

figures-back : (fs : List ℕ) → length fs ≤ 3 → figures_in (figures_of fs) ≡ fs
unfolding figures_in
figures-back [] h = refl
figures-back (a ∷ []) h = refl
figures-back (a ∷ b ∷ []) h = refl
figures-back (a ∷ b ∷ d ∷ []) h = refl
figures-back (a ∷ b ∷ d ∷ e ∷ fs) h = absurd (omega arith)

pub entry-back : (e : Entry) → length e.figures ≤ 3 → entry_of (fields_of e) ≡ e
unfolding entry_of
entry-back e h =
    ap (λ (fs : List ℕ). record { network = e.network; length = e.length; h = e.h; d = e.d; figures = fs }) (figures-back e.figures h)
