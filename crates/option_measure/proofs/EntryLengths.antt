-- How many figures an entry has, and how long it is when written.
-- Assumes nothing.
use Prim.Native.Nat.{ℕ, ◌+◌, ◌-◌, ◌*◌}
use native.Mathlib.Omega.{arith}
use mathlib.Core.Path.{◌≡◌, ◌∙◌}
use mathlib.Core.List.{◌∷◌}
use lib.ListN.{length, length-take, length-replicate, replicate}
use Rattle.option.specs.Writing.{entry_bytes}
use Rattle.option_entry.specs.declared.EntryFields.{EntryFields}
use Rattle.option_entry.specs.declared.Figures.{Figures}
use Rattle.option.proofs.WritingLaws.{entry_length}
use Rattle.option_measure.specs.Lists.{figures_in, entry_of}

pub figures-count : (f : Figures) → length (figures_in f) ≡ f.count
unfolding figures_in
figures-count f =
    length-take f.count (f.high_water.0 ∷ f.in_use.0 ∷ f.unusable.0 ∷ replicate (f.count - 3) 0)
    ∙ omega (arith, length-replicate {A = ℕ} (f.count - 3) 0)

pub entry_next : (at : ℕ) (e : EntryFields) → at + 7 + 2 * e.figures.count ≡ at + length (entry_bytes (entry_of e))
unfolding entry_of
entry_next at e = omega (arith, entry_length (entry_of e), figures-count e.figures)
