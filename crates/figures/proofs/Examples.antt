-- The row of an expired lease is not that of the new one in its place; and what is told stays until told again.
-- Assumes nothing.
use Prim.Native.Nat.{ℕ}
use mathlib.Core.Path.{◌≡◌, refl}
use mathlib.Core.Bool.{true, false}
use mathlib.Core.List.{[], ◌∷◌, map}
use Rattle.option_entry.specs.Steps.{figures_of}
use Rattle.names.specs.Names.{no_name}
use Rattle.table.specs.declared.Lease.{Lease}
use Rattle.figures.specs.declared.FigureRow.{FigureRow}
use Rattle.figures.specs.Figures.{of_lease?, row_for, kept_rows, newer_high_water, newer_in_use, newer_unusable, high_water_of, in_use_of, unusable_of, filed}

lease : ℕ → ℕ → ℕ → Lease
lease network client expires = record { network = network; length = 26; client = client; leased = false; h = false; d = true; expires = expires; name = no_name }

row : ℕ → ℕ → FigureRow
row network n = record { network = network; length = 26; high_water = record { 0 = n }; in_use = record { 0 = n }; unusable = record { 0 = n } }

abbrev shown : FigureRow → ℕ × ℕ × ℕ × ℕ
shown r = (r.network, r.high_water.0, r.in_use.0, r.unusable.0)

-- At 1000 the first of two has expired; both networks are held after the call.
follows : map {B = ℕ × ℕ × ℕ × ℕ} (λ x. shown (row_for (kept_rows 1000 (lease 64 9 1000 ∷ lease 128 7 1100 ∷ []) (row 64 5 ∷ row 128 6 ∷ [])) x)) (lease 64 7 1120 ∷ lease 128 7 1120 ∷ [])
    ≡ (64, 65535, 65535, 65535) ∷ (128, 6, 6, 6) ∷ []
unfolding lease row row_for of_lease?
follows = refl

-- High water is told, in use is 0xffff, and unusable is missing.
files : shown (filed (figures_of (9 ∷ 65535 ∷ [])) (row 64 5)) ≡ (64, 9, 5, 5)
unfolding row filed newer_high_water newer_in_use newer_unusable high_water_of in_use_of unusable_of
files = refl
