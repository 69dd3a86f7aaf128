-- `image_records::close_up` meets its contract: of the first i leases those present stand first.
use Rattle.image.specs.Image.{lease_size}
use Prim.Native.Nat.{◌+◌, ◌*◌}
use mathlib.Core.Path.{◌≡◌, refl, subst, ◌∙◌}
use lib.ListN.{drop}
use native.Mathlib.Omega.{arith}
use Rattle.image_records.specs.Inner.{Closed}
use Rattle.image_records.proofs.RemoveLaws.{one-if, closed-first, closed-behind, closed-more}
use Rattle.image_records.proofs.close_up.Goals as goal

pub loop-i-init : goal.loop-i-init
loop-i-init c =
    let a = c.args in
    (omega arith, omega arith, refl, refl, closed-first a.image.now a.from a.first a.time)

pub loop-i-preserved : goal.loop-i-preserved
loop-i-preserved c =
    let loop = c.loop-i in
    let a = c.args in
    let l = a.image.now in
    let counts = one-if a.time c.expires_at-expires.result c.from-kept.result c.from-kept.ensures in (
      omega (arith, counts.0),
      omega arith,
      c.put_chunk.auto.out ∙ loop.invariant.2,
      closed-behind l a.from a.first a.time loop.image loop.kept loop.i loop.invariant.4 loop.invariant.0 loop.invariant.3 loop.invariant.2 (omega arith) _ c.chunk_at-record.ensures _ c.put_chunk.ensures,
      closed-more l a.from a.first a.time loop.image loop.kept loop.i loop.invariant.4 loop.invariant.0 loop.invariant.3 loop.invariant.2 (omega arith) _ c.chunk_at-record.ensures _ c.put_chunk.ensures _ c.expires_at-expires.ensures c.from-kept.result counts.1 counts.2,
    )

pub shape_of-image : goal.shape_of-image
shape_of-image c = c.loop-i.invariant.2

pub returns : goal.returns
returns c =
    let loop = c.loop-i in
    let a = c.args in
    let all : loop.i ≡ a.last = omega arith in record { upper_bound = (omega arith, subst (λ k. drop (a.from + lease_size * k) loop.image ≡ drop (a.from + lease_size * k) a.image.now) all loop.invariant.3); closed = subst (Closed a.image.now a.from a.first a.time loop.image loop.kept) all loop.invariant.4 }
