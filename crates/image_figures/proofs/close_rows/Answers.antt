-- `image_figures::close_rows` meets its contract: of the first i rows those of leases that are present stand first.
use Prim.Native.Nat.{◌≤◌}
use mathlib.Core.Bool.{Bool, true, false}
use mathlib.Core.Path.{◌≡◌, refl, ap, subst, ◌∙◌}
use native.Mathlib.Omega.{arith}
use lib.Dec.{ltb}
use borrow.Author.Tests.{lt-ltb, le-ltb}
use Rattle.std.specs.Int.{from_bool}
use Rattle.image_figures.specs.Inner.{Closing}
use Rattle.image_figures.proofs.StrikeLaws.{closing-first, closing-more}
use Rattle.image_figures.proofs.close_rows.Goals as goal

one-at-most : (b : Bool) → from_bool b ≤ 1
one-at-most true = omega arith
one-at-most false = omega arith

pub loop-i-init : goal.loop-i-init
loop-i-init c =
    let a = c.args in
    (omega arith, refl, closing-first a.sheet.now a.image.now a.from a.first a.last a.n a.time (omega arith) (omega arith) (omega arith))

pub loop-i-preserved : goal.loop-i-preserved
loop-i-preserved c =
    let loop = c.loop-i in
    let a = c.args in
    let pre = c.requires in (
      omega (arith, one-at-most (ltb a.time c.expires_at.result), c.from-kept.ensures, loop.invariant.0),
      c.put_chunk.auto.out ∙ loop.invariant.1,
      closing-more a.sheet.now a.image.now a.from a.first a.last a.n a.time pre.0 pre.1 pre.2 loop.sheet loop.kept loop.i loop.invariant.0 (omega arith)
          loop.invariant.2 c.expires_at.result c.expires_at.ensures c.chunk_at-row.result c.chunk_at-row.ensures _ c.put_chunk.ensures c.from-kept.result
          (λ h. c.from-kept.ensures ∙ ap from_bool (lt-ltb a.time c.expires_at.result h)) (λ h. c.from-kept.ensures ∙ ap from_bool (le-ltb a.time c.expires_at.result h)),
    )

pub shape_of-sheet : goal.shape_of-sheet
shape_of-sheet c = c.loop-i.invariant.1

pub returns : goal.returns
returns c =
    let a = c.args in
    let loop = c.loop-i in
    let all : loop.i ≡ a.last = omega arith in record { upper_bound = omega arith; closing = subst (Closing a.sheet.now a.image.now a.from a.first a.last a.n a.time loop.sheet loop.kept) all loop.invariant.2 }
