-- `image_figures::spread` meets its contract: the leases from k on have their rows, and `left` rows are to be placed.
use Prim.Native.Nat.{◌+◌, ◌-◌}
use mathlib.Core.Path.{◌≡◌, refl, subst, ◌∙◌}
use native.Mathlib.Omega.{arith}
use Rattle.image_figures.proofs.SpreadLaws.{Spreading, spread-first, spread-more, spread-last}
use Rattle.image_figures.proofs.spread.Goals as goal

pub loop-left-init : goal.loop-left-init
loop-left-init c =
    let a = c.args in
    (omega arith, omega arith, refl, spread-first a.sheet.now a.n a.image.now a.from a.leases (omega arith) (omega arith))

pub loop-left-preserved : goal.loop-left-preserved
loop-left-preserved c =
    let loop = c.loop-left in
    let a = c.args in
    let k = loop.k - 1 in
    let up : loop.k ≡ k + 1 = omega arith in (
      omega arith,
      omega arith,
      c.place_row-left.auto.sheet ∙ loop.invariant.2,
      spread-more a.sheet.now a.n a.image.now a.from a.leases (omega arith) (omega arith) loop.sheet _ loop.left c.place_row-left.result k (omega arith)
          (subst (Spreading a.sheet.now a.n a.image.now a.from a.leases loop.sheet loop.left) up loop.invariant.3) c.place_row-left.ensures.value,
    )

pub shape_of-sheet : goal.shape_of-sheet
shape_of-sheet c = c.loop-left.invariant.2

pub returns : goal.returns
returns c =
    let a = c.args in
    let loop = c.loop-left in
    spread-last a.sheet.now a.n a.image.now a.from a.leases (omega arith) (omega arith) loop.sheet loop.left loop.k (omega arith) (omega arith) loop.invariant.3
