-- `image_figures::row_in` meets its contract.
use Prim.Native.Nat.{ℕ}
use mathlib.Core.Path.{ap₂, ◌∙◌}
use lib.ListN.{get_or}
use Rattle.image.specs.Fields.{number16, number32}
use Rattle.image_figures.proofs.RowLaws.{row_of}
use Rattle.image_figures.proofs.row_in.Goals as goal

pub returns : goal.returns
returns c =
    let s = c.args.s.now in
    ap₂ (λ (n h : ℕ). row_of n (get_or s 4 0) h c.read16-2.result c.read16-3.result) c.read32.ensures c.read16.ensures
    ∙ ap₂ (λ (u b : ℕ). row_of (number32 s 0) (get_or s 4 0) (number16 s 5) u b) c.read16-2.ensures c.read16-3.ensures
