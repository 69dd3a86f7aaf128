-- `find` meets its contract: only the lease at the place that halving gives can have the network.
use Prim.Native.Nat.{ℕ, ◌+◌, ◌-◌, ◌*◌}
use native.Mathlib.Omega.{arith}
use mathlib.Core.Path.{◌≡◌, sym, ap, subst, ◌∙◌}
use mathlib.Core.List.{List}
use lib.ListN.{drop}
use borrow.Author.Rules.{rules}
use Rattle.std.specs.Prelude.{Some, None}
use Rattle.table.specs.declared.Lease.{Lease}
use Rattle.image.specs.Image.{lease_size}
use Rattle.image.specs.Reading.{lease_in}
use Rattle.call_entries.specs.EntryLeases.{named?, FoundAt}
use Rattle.call_entries.proofs.NamedLaws.{Named, find_none, find-other, find-here}
use Rattle.call_entries.proofs.find.Goals as goal
use Rattle.call_entries.proofs.find.Goals.{else-x-network-via-then-x-network+then-x-length+then-x-client+else-time-x, else-x-network-via-then-x-network+then-x-length+else-x-client, else-x-network-via-then-x-network+else-x-length, else-x-network-via-else-x-network}

pub returns-in_err-place-clause-found_at : goal.returns-in_err-place-clause-found_at
returns-in_err-place-clause-found_at c xs held counted ascending =
    let a = c.args in
    let is : c.from_residual.result ≡ None = search rules in
    subst (FoundAt (named? a.time a.client a.network a.length) xs) (sym is)
    (find_none a.time a.client a.network a.length a.image.now a.from a.n c.place_after.result c.place_after.ensures.value (omega (arith, c.in_err-place.ensures)) xs held counted ascending)

-- The place is that before it.
reads : (l : List ℕ) (from r place : ℕ) (x : Lease) → place ≡ r - 1 → x ≡ lease_in (drop (from + lease_size * place) l) → x ≡ lease_in (drop (from + lease_size * (r - 1)) l)
reads l from r place x e is = is ∙ ap (λ (k : ℕ). lease_in (drop (from + lease_size * k) l)) e

pub returns-then-time-x-clause-found_at : goal.returns-then-time-x-clause-found_at
returns-then-time-x-clause-found_at c xs held counted ascending =
    let a = c.args in
    let r = c.place_after.result in
    let place = c.in_ok-place.ensures in
    subst (λ (k : ℕ). FoundAt (named? a.time a.client a.network a.length) xs (Some k)) (sym place.1)
    (find-here a.time a.client a.network a.length a.image.now a.from a.n r c.place_after.ensures.value place.0 c.lease_at-x.result (reads a.image.now a.from r c.in_ok-place.place c.lease_at-x.result place.1 c.lease_at-x.ensures)
    (c.if-time-x.true, c.if-x-client.true, c.if-x-network.true, c.if-x-length.true) xs held counted ascending)

pub returns-clause-found_at : goal.returns-clause-found_at
returns-clause-found_at c xs held counted ascending =
    let a = c.args in
    let r = c.place_after.result in
    let place = c.in_ok-place.ensures in
    find-other a.time a.client a.network a.length a.image.now a.from a.n r c.place_after.ensures.value place.0 c.lease_at-x.result (reads a.image.now a.from r c.in_ok-place.place c.lease_at-x.result place.1 c.lease_at-x.ensures)
    (λ (p : Named a.time a.client a.network a.length c.lease_at-x.result).
    elim c.else-x-network.branch [
      | else-x-network-via-then-x-network+then-x-length+then-x-client+else-time-x w ↦ omega (arith, w.if-time-x.false, p.0)
      | else-x-network-via-then-x-network+then-x-length+else-x-client w ↦ w.if-x-client.false p.1
      | else-x-network-via-then-x-network+else-x-length w ↦ w.if-x-length.false p.3
      | else-x-network-via-else-x-network w ↦ w.if-x-network.false p.2
    ])
    xs held counted ascending
