-- `image_figures::leases_match` meets its contract: the rows up to i are of their leases, so the answer is that for the rest.
use native.Mathlib.Omega.{arith}
use Rattle.table.specs.Table.{lease_slots}
use Rattle.image_figures.proofs.MatchLaws.{matching-none, matching-more, matching-not, matching-all}
use Rattle.image_figures.proofs.leases_match.Goals as goal

pub loop-i-init : goal.loop-i-init
loop-i-init c =
    let a = c.args in
    λ few. matching-none a.sheet.now a.image.now a.from a.n lease_slots few

pub returns-then-not-of_lease_at : goal.returns-then-not-of_lease_at
returns-then-not-of_lease_at c =
    let a = c.args in
    let loop = c.loop-i in
    let test = c.of_lease_at in
    let few = c.requires.0 in
    matching-not a.sheet.now a.image.now a.from a.n lease_slots few loop.i (omega arith) (loop.invariant few) test.result test.ensures c.if-not-of_lease_at.true

pub loop-i-preserved : goal.loop-i-preserved
loop-i-preserved c =
    let a = c.args in
    let loop = c.loop-i in
    let test = c.of_lease_at in
    λ few.
    matching-more a.sheet.now a.image.now a.from a.n lease_slots few loop.i (omega arith) (loop.invariant few) test.result test.ensures
    c.if-not-of_lease_at.false

pub returns : goal.returns
returns c =
    let a = c.args in
    let loop = c.loop-i in
    matching-all a.sheet.now a.image.now a.from a.n lease_slots c.requires.0 loop.i (omega arith) (loop.invariant c.requires.0)
