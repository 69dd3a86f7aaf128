-- `image_forms::put_leases_as` meets its contract: the first i leases have been put.
use Prim.Native.Nat.{ℕ, ◌+◌, ◌*◌}
use mathlib.Core.Path.{◌≡◌, refl, subst, ap₂, ◌∙◌}
use native.Mathlib.Omega.{arith}
use lib.ListN.{drop}
use Rattle.lists.specs.Put.{put}
use Rattle.image_forms.specs.Forms.{lease_as, Moved}
use Rattle.image_forms.proofs.FormLaws.{moved_none, moved_more}
use Rattle.image_forms.proofs.put_leases_as.Goals as goal

pub loop-i-init : goal.loop-i-init
loop-i-init c = let a = c.args in (moved_none a.from a.to a.s.now a.at a.out.now a.place, refl)

pub loop-i-preserved : goal.loop-i-preserved
loop-i-preserved c =
    let loop = c.loop-i in
    let a = c.args in
    let sizes = ap₂ (λ (m n : ℕ). put loop.out (a.place + m * loop.i) (lease_as a.to (drop (a.at + n * loop.i) a.s.now))) c.lease_size-new_size.ensures c.lease_size-size.ensures in (
      moved_more a.from a.to a.s.now a.at a.out.now a.place loop.i loop.out _ loop.invariant.0 (c.put_lease_as.ensures ∙ sizes),
      c.put_lease_as.auto.out ∙ loop.invariant.1,
    )

pub returns : goal.returns
returns c =
    let loop = c.loop-i in
    let a = c.args in
    let all : loop.i ≡ a.n = omega arith in
    subst (λ k. Moved a.from a.to a.s.now a.at k a.out.now a.place loop.out) all loop.invariant.0
