-- `information_from` meets its contract: the suboptions up to the place have no entries.
use native.Mathlib.Omega.{arith}
use mathlib.Core.Path.{refl, ap}
use lib.ListN.{length}
use Rattle.call_entries.proofs.FiguresLaws.{skipping-none, skipping-more, skipping-here, skipping-head, skipping-end}
use Rattle.call_entries.proofs.information_from.Goals as goal

pub loop-place-init : goal.loop-place-init
loop-place-init c = skipping-none _ _

pub returns-then-s-place : goal.returns-then-s-place
returns-then-s-place c later inside good some = absurd (omega (arith, skipping-head _ _ _ c.loop-place.invariant c.loop-place-test.true later inside good, c.if-s-place.true))

pub returns-then-s-place-eq-INFORMATION : goal.returns-then-s-place-eq-INFORMATION
returns-then-s-place-eq-INFORMATION c later inside good some =
    let byte = c.from in
    skipping-here _ _ _ c.loop-place.invariant c.loop-place-test.true byte.result _ refl byte.ensures c.if-s-place-eq-INFORMATION.true later inside good

pub loop-place-smaller : goal.loop-place-smaller
loop-place-smaller c = omega (arith, c.loop-place-test.true)

pub loop-place-preserved : goal.loop-place-preserved
loop-place-preserved c =
    let byte = c.from in
    skipping-more _ _ _ c.loop-place.invariant c.loop-place-test.true byte.result _ refl byte.ensures c.if-s-place-eq-INFORMATION.false

pub returns : goal.returns
returns c later inside good some = absurd (omega (arith, ap length (skipping-end _ _ _ c.loop-place.invariant c.loop-place-test.false later inside good), some))
