-- `hold_again` meets its contract: the leases at the first j places are held anew.
use mathlib.Core.Path.{refl, ap, ◌∙◌}
use native.Mathlib.Omega.{arith}
use lib.ListN.{length}
use lib.Seq.{take_all}
use Rattle.lists.proofs.IndexLaws.{all-at}
use Rattle.ask_again.specs.Places.{InBuffer}
use Rattle.ask_again.proofs.HoldLaws.{held_in, held_start, held_next}
use Rattle.ask_again.proofs.hold_again.Goals as goal

pub loop-place-init : goal.loop-place-init
loop-place-init c = let a = c.args in (refl, λ us stand ascends within. held_start a.time a.image.now a.from us stand ascends)

pub hold_one-requires : goal.hold_one-requires
hold_one-requires c =
    let l = c.loop-place in
    let fit = all-at (InBuffer c.args.from (length c.args.image.now)) c.args.places.now c.requires.0 l.place-index 0 (omega arith) in
    λ some-place. omega (arith, fit some-place, l.invariant.0)

pub loop-place-preserved : goal.loop-place-preserved
loop-place-preserved c =
    let l = c.loop-place in
    let a = c.args in (
      c.hold_one.auto.image ∙ l.invariant.0,
      λ us stand ascends within.
          held_next a.time a.image.now a.from us stand ascends a.places.now within l.place-index (omega arith) l.image (l.invariant.1 us stand ascends within) c.hold_one.new.image c.hold_one.ensures,
    )

pub shape_of-image : goal.shape_of-image
shape_of-image c = c.loop-place.invariant.0

pub returns : goal.returns
returns c us stand ascends within =
    let l = c.loop-place in
    let a = c.args in
    l.invariant.1 us stand ascends within ∙ ap (held_in a.time a.image.now a.from us) (take_all l.place-index a.places.now (omega arith))
