-- `image_figures::clear_each` meets its contract: the rows from `first` up to i are cleared.
use Prim.Native.Nat.{ℕ, ◌+◌, ◌-◌, ◌*◌}
use mathlib.Core.Path.{◌≡◌, refl, sym, ap, ◌∙◌}
use mathlib.Core.List.{append-nil}
use native.Mathlib.Omega.{arith}
use Rattle.lists.specs.Put.{put}
use Rattle.figures.specs.Figures.{empty_row}
use Rattle.image_figures.specs.Sheets.{row_size, row_bytes}
use Rattle.image_figures.proofs.EmptyBytes.{empty_bytes}
use Rattle.image_figures.proofs.FillLaws.{cleared-none, cleared_more}
use Rattle.image_figures.proofs.clear_each.Goals as goal

pub loop-i-init : goal.loop-i-init
loop-i-init c =
    let a = c.args in
    (refl, cleared-none a.sheet.now a.first)

pub loop-i-preserved : goal.loop-i-preserved
loop-i-preserved c =
    let a = c.args in
    let loop = c.loop-i in
    let written = c.put_row in
    let row = c.empty_row in
    let one : row_bytes row.result ≡ empty_bytes 1 = ap row_bytes row.ensures ∙ sym (append-nil (row_bytes empty_row)) in (
      written.auto.sheet ∙ loop.invariant.0,
      cleared_more a.sheet.now a.first loop.sheet _ loop.i loop.i 1 (loop.i + 1) (omega arith) (omega arith) (omega arith) refl loop.invariant.1
          (written.ensures ∙ ap (put loop.sheet (row_size * loop.i)) one),
    )

pub shape_of-sheet : goal.shape_of-sheet
shape_of-sheet c = c.loop-i.invariant.0

pub returns : goal.returns
returns c =
    let a = c.args in
    let loop = c.loop-i in
    let all : loop.i ≡ a.last = omega arith in
    loop.invariant.1 ∙ ap (λ (k : ℕ). put a.sheet.now (row_size * a.first) (empty_bytes (k - a.first))) all
