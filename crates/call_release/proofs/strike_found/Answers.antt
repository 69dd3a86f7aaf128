-- `strike_found` meets its contract: row 11, or what is found removed.
use Prim.Native.Nat.{ℕ, ◌≤◌}
use mathlib.Core.Path.{◌≡◌, ap, subst, ◌∙◌}
use mathlib.Core.List.{[]}
use borrow.Author.Rules.{rules}
use Rattle.std.specs.Prelude.{Option, Some, None, Result, Err, IfSome}
use Rattle.ledger.specs.declared.{Accepted.Accepted, Refusal.Refusal}
use Rattle.ledger.specs.declared.Refusal.TheVariants.{NothingFound}
use Rattle.ledger.specs.Answers.{answer_of}
use Rattle.ledger.specs.Ledger.{call, outcome}
use Rattle.call_spec.specs.ImageCalls.{lent}
use Rattle.call_rows.specs.Admission.{leases_from}
use Rattle.call_release.specs.declared.Strikes.{Strikes}
use Rattle.call_release.specs.InnerStruck.{StruckBy}
use Rattle.call_release.proofs.ReleaseLaws.{release-nothing, release-found}
use Rattle.call_release.proofs.strike_found.Goals as goal

some-struck : (r : Option Strikes) (s : Strikes) (m n : ℕ) → r ≡ Some s → IfSome r (λ x. (1 ≤ x.count) × (x.count ≤ m) × (x.first ≤ x.last) × (x.last ≤ n)) → 1 ≤ s.count
some-struck r s m n is h = (subst (λ (o : Option Strikes). IfSome o (λ x. (1 ≤ x.count) × (x.count ≤ m) × (x.first ≤ x.last) × (x.last ≤ n))) is h).0

pub returns-in_err-strikes : goal.returns-in_err-strikes
returns-in_err-strikes c option t =
    let a = c.args in
    let h = lent a.image.now a.image_bytes.now a.figures.now in
    let new = c.strike_named-struck.new.image in
    let is : c.from_residual.result ≡ Err NothingFound = search rules in
    let nothing : c.strike_named-struck.result ≡ None = search rules in
    ap (λ (r : Result Accepted Refusal). outcome (answer_of r) (lent new a.image_bytes.now a.figures.now) []) is
    ∙ release-nothing h a.time (call a.client option []) a.summary a.networks.now a.lengths.now t new
    (λ zs held counted ascending es p.
    subst (λ (o : Option Strikes). StruckBy a.image.now (leases_from a.summary) zs a.time a.client es new o) nothing (c.strike_named-struck.ensures.equation zs held counted ascending es p))

pub returns : goal.returns
returns c option t =
    let a = c.args in
    let h = lent a.image.now a.image_bytes.now a.figures.now in
    let new = c.strike_named-struck.new.image in
    let s = c.in_ok-strikes.strikes in
    let is : c.strike_named-struck.result ≡ Some s = search rules in
    release-found h a.time (call a.client option []) a.summary a.networks.now a.lengths.now t new s
    (λ zs held counted ascending es p.
    subst (λ (o : Option Strikes). StruckBy a.image.now (leases_from a.summary) zs a.time a.client es new o) is (c.strike_named-struck.ensures.equation zs held counted ascending es p))
    _ _ _ c.remove_struck.ensures (some-struck c.strike_named-struck.result s _ _ is c.strike_named-struck.ensures.bounds)
