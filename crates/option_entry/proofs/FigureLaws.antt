-- The figures in so many bytes.
-- Assumes nothing.
use Prim.Native.Nat.{ℕ, ◌+◌, ◌/◌, ◌≤◌, ◌<◌}
use native.Mathlib.Omega.{arith}
use mathlib.Core.Path.{◌≡◌}
use mathlib.Core.List.{List, [], ◌∷◌}
use lib.Seq.{take_all}
use Rattle.option_entry.specs.Entries.{two, figures_at}

module _ (s : List ℕ) (at n : ℕ) where
  pub figures-none : n < 2 → figures_at s at n ≡ []
  unfolding figures_at
  figures-none h = let e : n / 2 ≡ 0 = omega arith in rw e

  pub figures-one : 2 ≤ n → n < 4 → figures_at s at n ≡ two s at ∷ []
  unfolding figures_at
  figures-one h k = let e : n / 2 ≡ 1 = omega arith in rw e

  pub figures-two : 4 ≤ n → n < 6 → figures_at s at n ≡ two s at ∷ two s (at + 2) ∷ []
  unfolding figures_at
  figures-two h k = let e : n / 2 ≡ 2 = omega arith in rw e

  pub figures-three : 6 ≤ n → figures_at s at n ≡ two s at ∷ two s (at + 2) ∷ two s (at + 4) ∷ []
  unfolding figures_at
  figures-three h = take_all (n / 2) _ (omega arith)
