-- `ground_of` meets its contract.
use Prim.Native.Nat.{ℕ, ◌≤◌}
use native.Mathlib.Omega.{arith}
use mathlib.Core.Path.{◌≡◌, sym, ap, subst, ◌∙◌}
use mathlib.Core.Option.{some}
use Rattle.std.specs.Prelude.{Option as Found, None, is_some, IfSome}
use Rattle.call_ground.specs.declared.Ground.{Ground}
use Rattle.call_ground.specs.Ground.{LeasesIn, GroundOf}
use Rattle.prefix.specs.declared.Prefix.{Prefix}
use Rattle.prefix.specs.Prefixes.{end}
use Rattle.option.specs.Reading.{four}
use Rattle.table.specs.Table.{addresses, pool_prefix}
use Rattle.call_spec.specs.ImageCalls.{carried_if}
use Rattle.call_ground.proofs.GroundsLaws.{admitted-room, admitted-ends, grounds-all, grounds-none, grounds-one}
use borrow.Author.Rules.{rules}
use Rattle.call_ground.proofs.ground_of.Goals as goal

pub returns-in_default-clause-equation : goal.returns-in_default-clause-equation
returns-in_default-clause-equation c h time call s same admitted carries at =
    grounds-all h time call c.args.summary admitted (carries ∙ ap (λ (o : Found ℕ). carried_if (is_some o) s) c.in_default.is)

pub returns-in_err-pool-clause-equation : goal.returns-in_err-pool-clause-equation
returns-in_err-pool-clause-equation c h time call s same admitted carries at =
    let a = c.args in
    let it : call.selection ≡ some s = carries ∙ ap (λ (o : Found ℕ). carried_if (is_some o) s) c.in-Some.is in
    let there : c.in-Some.address ≡ four s 2 = subst (λ (o : Found ℕ). IfSome o (λ n. n ≡ four s 2)) c.in-Some.is at in
    let is : c.from_residual.result ≡ None = search rules in
    subst (λ (r : Found Ground). GroundOf h call a.summary r) (sym is)
    (grounds-none h time call a.summary admitted s it c.in-Some.address there a.image.now same c.in_err-pool.ensures)

pub leases_in-range-requires : goal.leases_in-range-requires
leases_in-range-requires c =
    let a = c.args in (
      omega (arith, admitted-room a.image.now a.summary c.requires),
      subst (λ (p : Prefix). end p ≤ addresses) (sym (c.from-p.ensures ∙ ap pool_prefix c.pool_at.ensures)) (admitted-ends a.image.now a.summary c.requires c.in_ok-pool.pool c.in_ok-pool.ensures.within),
    )

pub returns-clause-equation : goal.returns-clause-equation
returns-clause-equation c h time call s same admitted carries at =
    let a = c.args in
    let it : call.selection ≡ some s = carries ∙ ap (λ (o : Found ℕ). carried_if (is_some o) s) c.in-Some.is in
    let there : c.in-Some.address ≡ four s 2 = subst (λ (o : Found ℕ). IfSome o (λ n. n ≡ four s 2)) c.in-Some.is at in
    let pool = c.from-p.ensures ∙ ap pool_prefix c.pool_at.ensures in
    let range = c.leases_in-range in
    grounds-one h time call a.summary admitted s it c.in-Some.address there a.image.now same c.in_ok-pool.pool c.in_ok-pool.ensures range.result range.ensures.count_bound
    (λ xs records many up. subst (λ (p : Prefix). LeasesIn p xs range.result) pool (range.ensures.equation xs records many up))
