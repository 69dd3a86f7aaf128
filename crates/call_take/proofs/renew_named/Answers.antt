-- `renew_named` meets its contract: after k entries the leases that these name are renewed and shown, and their places kept.
use Prim.Native.Nat.{ℕ, ◌+◌, ◌*◌, ◌≤◌, ◌<◌}
use native.Mathlib.Omega.{arith}
use mathlib.Core.Path.{◌≡◌, refl, sym, ap, ◌∙◌}
use mathlib.Core.List.{List}
use lib.ListN.{length, set}
use Rattle.std.specs.Prelude.{Option, Some}
use Rattle.image.specs.Image.{lease_size}
use Rattle.call_take.proofs.RenewLaws.{renewing-none, renewing-more, renewing-skip, renewing-all, below-more}
use Rattle.call_take.proofs.renew_named.Goals as goal
use Rattle.call_take.proofs.renew_named.Goals.{in-Some, in-None}

-- The place that is kept is that of the lease that was found.
place-kept : (places places₁ : List (Option ℕ)) (k v i : ℕ) (r : Option ℕ) → places₁ ≡ set places k (Some v) → v ≡ i → r ≡ Some i → places₁ ≡ set places k r
place-kept places places₁ k v i r kept same is = kept ∙ ap (set places k) (ap Some same ∙ sym is)

pub loop-k-init : goal.loop-k-init
loop-k-init c = (omega arith, refl, refl, refl, renewing-none _ _ _ _ _ _ _ _ _ _, omega arith, tt)

pub loop-k-preserved : goal.loop-k-preserved
loop-k-preserved c =
    let j = c.match-set_expiry in
    let loop = c.loop-k in
    let found = c.set_expiry in
    let renewal = c.args.renewal in
    let room : renewal.from + lease_size * renewal.first + lease_size * renewal.leases ≤ length c.args.image.now = omega (arith, c.requires.0, c.requires.2) in
    let same : length found.new.image ≡ length c.args.image.now = found.auto.image ∙ loop.invariant.1 in
    let long : length j.places ≡ length c.args.places.now = j.auto.places ∙ loop.invariant.2 in
    let fits : loop.k < length loop.places = omega (arith, c.loop-k-test.true, c.requires.4, loop.invariant.2) in
    elim j.branch [
      | in-Some w ↦
          let kept : j.places ≡ set loop.places loop.k found.result = place-kept _ _ _ _ _ _ w.places-is (omega arith) w.in-Some.is in (
            omega (arith, loop.invariant.0, w.shown-is),
            same,
            long,
            ap length w.reply-is ∙ w.put_lease.auto.reply ∙ loop.invariant.3,
            renewing-more _ _ _ _ _ _ _ _ _ room c.requires.6 _ _ _ _ _ loop.invariant.4 c.loop-k-test.true fits _ _ found.ensures.expiry_set _ kept j.reply j.shown w.in-Some.i
                w.lease_at-x.result w.in-Some.is w.lease_at-x.ensures (w.reply-is ∙ w.put_lease.ensures) w.shown-is,
            loop.invariant.5,
            below-more _ loop.places _ loop.k found.result fits kept loop.invariant.6 found.ensures.upper_bound,
          )
      | in-None w ↦
          let kept : j.places ≡ set loop.places loop.k found.result = w.places-is ∙ ap (set loop.places loop.k) (sym w.in-None.is) in (
            omega (arith, loop.invariant.0, w.shown-is),
            same,
            long,
            ap length w.reply-is ∙ loop.invariant.3,
            renewing-skip _ _ _ _ _ _ _ _ _ room c.requires.6 _ _ _ _ _ loop.invariant.4 c.loop-k-test.true fits _ _ found.ensures.expiry_set _ kept j.reply j.shown
                w.reply-is w.shown-is w.in-None.is,
            loop.invariant.5,
            below-more _ loop.places _ loop.k found.result fits kept loop.invariant.6 found.ensures.upper_bound,
          )
    ]

pub returns-clause-equation : goal.returns-clause-equation
returns-clause-equation c = let loop = c.loop-k in renewing-all _ _ _ _ _ _ _ _ _ _ _ _ _ _ loop.invariant.4 (omega (arith, c.loop-k-test.false, loop.auto.k-end))
