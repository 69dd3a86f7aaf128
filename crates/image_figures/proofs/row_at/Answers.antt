-- `image_figures::row_at` meets its contract.
use Prim.Native.Nat.{◌-◌}
use mathlib.Core.Path.{ap, ◌∙◌}
use native.Mathlib.Omega.{arith}
use lib.ListN.{length, drop, length-drop}
use lib.Seq.{take_all}
use Rattle.image_figures.specs.Sheets.{row_in}
use Rattle.image_figures.proofs.row_at.Goals as goal

pub returns : goal.returns
returns c =
    let a = c.args in
    c.row_in.ensures ∙ ap row_in (take_all (length a.sheet.now - a.at) (drop a.at a.sheet.now) (omega (arith, length-drop a.at a.sheet.now)))
