-- `first_figures` meets its contract: the rows of no leases are those of empty slots.
use Prim.Native.Nat.{ℕ, zero, suc}
use mathlib.Core.Path.{◌≡◌, refl, ap, ◌∙◌}
use mathlib.Core.List.{[], ◌∷◌, map}
use lib.ListN.{replicate}
use Rattle.table.specs.Table.{lease_slots, no_lease}
use Rattle.image_records.specs.Records.{Records}
use Rattle.figures.specs.Figures.{untold_row, empty_row}
use Rattle.image_figures.specs.Sheets.{sheet_of}
use Rattle.console_session.proofs.first_figures.Goals as goal

empty-rows : (n : ℕ) → map untold_row (replicate n no_lease) ≡ replicate n empty_row
empty-rows zero = refl
empty-rows (suc n) = ap (λ rows. empty_row ∷ rows) (empty-rows n)

no-leases : Records [] 0 []
unfolding Records
no-leases = refl

pub returns : goal.returns
returns c = c.fill.ensures [] no-leases refl ∙ ap sheet_of (empty-rows lease_slots)
