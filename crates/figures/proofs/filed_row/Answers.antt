-- `figures::filed_row` meets its contract.
use Prim.Native.Nat.{ℕ}
use mathlib.Core.Path.{◌≡◌, ap, ap₂, ◌∙◌}
use Rattle.option_entry.specs.declared.{HighWater.HighWater, InUse.InUse, Unusable.Unusable}
use Rattle.figures.specs.declared.FigureRow.{FigureRow}
use Rattle.figures.specs.Figures.{filed, high_water_of, in_use_of, unusable_of, newer_high_water, newer_in_use, newer_unusable}
use Rattle.figures.proofs.filed_row.Goals as goal

abbrev row_with : ℕ → ℕ → HighWater → InUse → Unusable → FigureRow
row_with network len high busy bad = record { network = network; length = len; high_water = high; in_use = busy; unusable = bad }

pub returns : goal.returns
unfolding filed high_water_of in_use_of unusable_of newer_high_water newer_in_use newer_unusable
returns c =
    let a = c.args in
    let r = a.r in
    let f = a.f in
    let high : c.newer.result ≡ newer_high_water r.high_water (high_water_of f) = c.newer.ensures ∙ ap (newer_high_water r.high_water) c.told.ensures in
    let busy : c.newer-2.result ≡ newer_in_use r.in_use (in_use_of f) = c.newer-2.ensures ∙ ap (newer_in_use r.in_use) c.told-2.ensures in
    let bad : c.newer-3.result ≡ newer_unusable r.unusable (unusable_of f) = c.newer-3.ensures ∙ ap (newer_unusable r.unusable) c.told-3.ensures in
    ap₂ (λ (h : HighWater) (u : InUse). row_with r.network r.length h u c.newer-3.result) high busy
    ∙ ap (row_with r.network r.length (newer_high_water r.high_water (high_water_of f)) (newer_in_use r.in_use (in_use_of f))) bad
