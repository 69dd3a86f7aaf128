-- `image_figures::fill_leases` meets its contract: the first i leases have untold rows.
use Prim.Native.Nat.{◌+◌, ◌*◌}
use mathlib.Core.Path.{refl, sym, ◌∙◌}
use native.Mathlib.Omega.{arith}
use lib.ListN.{drop}
use Rattle.image.specs.Image.{lease_size}
use Rattle.image.specs.Reading.{lease_in}
use Rattle.figures.specs.Figures.{untold_row}
use Rattle.image_figures.proofs.FillLaws.{filling-none, filling-more, filling-all}
use Rattle.image_figures.proofs.fill_leases.Goals as goal

pub loop-i-init : goal.loop-i-init
loop-i-init c =
    let a = c.args in
    (refl, filling-none a.sheet.now a.image.now a.from a.n)

pub loop-i-preserved : goal.loop-i-preserved
loop-i-preserved c =
    let loop = c.loop-i in
    let a = c.args in
    let x = lease_in (drop (a.from + lease_size * loop.i) a.image.now) in (
      c.put_untold.auto.sheet ∙ loop.invariant.0,
      filling-more a.sheet.now a.image.now a.from a.n loop.sheet _ loop.i x (untold_row x) (omega arith) loop.invariant.1 refl refl
          (c.put_untold.ensures x (sym c.network_at-network.ensures) (sym c.length_at-len.ensures)),
    )

pub shape_of-sheet : goal.shape_of-sheet
shape_of-sheet c = c.loop-i.invariant.0

pub returns : goal.returns
returns c =
    let a = c.args in
    let loop = c.loop-i in
    filling-all a.sheet.now a.image.now a.from a.n loop.sheet loop.i (omega arith) loop.invariant.1
