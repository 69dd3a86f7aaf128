-- `strike_named` meets its contract: after k entries the leases that these name are struck.
use Prim.Native.Nat.{ℕ, ◌<◌}
use native.Mathlib.Omega.{arith}
use mathlib.Core.Path.{◌≡◌, refl, subst, ◌∙◌}
use Rattle.std.specs.Prelude.{Option, Some, IfSome}
use Rattle.call_release.specs.declared.Strikes.{Strikes}
use Rattle.call_release.proofs.StrikeLaws.{striking-none, striking-more, striking-skip, striking-all, striking-nothing}
use Rattle.call_release.proofs.strike_named.Goals as goal
use Rattle.call_release.proofs.strike_named.Goals.{in-Some, in_default}

within : (r : Option ℕ) (i n : ℕ) → r ≡ Some i → IfSome r (λ j. j < n) → i < n
within r i n is h = subst (λ (o : Option ℕ). IfSome o (λ j. j < n)) is h

pub loop-k-init : goal.loop-k-init
loop-k-init c =
    let a = c.args in
    (omega arith, refl, omega arith, (λ h. absurd (omega arith)), striking-none a.image.now a.from a.n a.time a.client a.networks.now a.lengths.now)

pub loop-k-preserved : goal.loop-k-preserved
loop-k-preserved c =
    let loop = c.loop-k in
    let a = c.args in
    let j = c.match-found in
    let found = c.set_expiry-found in
    let so_far : Strikes = record { count = loop.count; first = loop.first; last = loop.last } in
    let now : Strikes = record { count = j.count; first = j.first; last = j.last } in
    let same = found.auto.image ∙ loop.invariant.1 in
    elim j.branch [
      | in-Some w ↦
          let below = within found.result w.in-Some.i a.n w.in-Some.is found.ensures.upper_bound in (
            omega (arith, w.count-is, loop.invariant.0),
            same,
            omega (arith, w.last-is, w.max-last.ensures, loop.invariant.2, below),
            λ h. omega (arith, w.first-is, w.last-is, w.min-first.ensures, w.max-last.ensures),
            striking-more a.image.now a.from a.n a.time a.client a.networks.now a.lengths.now c.requires.0 loop.image so_far loop.k loop.invariant.4 (omega (arith, c.loop-k-test.true)) _ found.result found.ensures.expiry_set
                w.in-Some.i w.in-Some.is now w.count-is
                (omega (arith, w.first-is, w.min-first.ensures)) (omega (arith, w.first-is, w.min-first.ensures)) (omega (arith, w.last-is, w.max-last.ensures)) (omega (arith, w.last-is, w.max-last.ensures)),
          )
      | in_default w ↦ (
        omega (arith, w.count-is, loop.invariant.0),
        same,
        omega (arith, w.last-is, loop.invariant.2),
        λ h. omega (arith, w.count-is, w.first-is, w.last-is, loop.invariant.3 (omega (arith, w.count-is, h))),
        striking-skip a.image.now a.from a.n a.time a.client a.networks.now a.lengths.now c.requires.0 loop.image so_far loop.k loop.invariant.4 (omega (arith, c.loop-k-test.true)) _ found.result found.ensures.expiry_set
            w.in_default.is now w.count-is w.first-is w.last-is,
      )
    ]

pub returns-then-count-eq0-clause-equation : goal.returns-then-count-eq0-clause-equation
returns-then-count-eq0-clause-equation c xs held counted ascending es p =
    let loop = c.loop-k in
    let a = c.args in
    striking-nothing a.image.now a.from a.n a.time a.client a.networks.now a.lengths.now loop.image _ loop.k loop.invariant.4 (omega (arith, c.loop-k-test.false)) xs held counted ascending es p (omega arith)

pub returns-clause-equation : goal.returns-clause-equation
returns-clause-equation c xs held counted ascending es p =
    let loop = c.loop-k in
    let a = c.args in
    striking-all a.image.now a.from a.n a.time a.client a.networks.now a.lengths.now loop.image _ loop.k loop.invariant.4 (omega (arith, c.loop-k-test.false)) xs held counted ascending es p
