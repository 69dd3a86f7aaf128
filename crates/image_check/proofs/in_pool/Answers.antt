-- `image_check::in_pool` meets its contract: after each lease the answer is that for the bytes from there on.
use Prim.Native.Nat.{ℕ, ◌+◌, ◌-◌, ◌<◌}
use mathlib.Core.Path.{◌≡◌, sym, ap, subst, ◌∙◌}
use mathlib.Core.List.{List}
use native.Mathlib.Omega.{arith}
use lib.ListN.{length, take, drop}
use Rattle.std.specs.Prelude.{Option}
use Rattle.prefix.specs.declared.Prefix.{Prefix}
use Rattle.prefix.specs.Prefixes.{end}
use Rattle.image.specs.declared.Form.{Form}
use Rattle.image.specs.Image.{lease_size_in}
use Rattle.image.proofs.FieldLaws.{Bytes}
use Rattle.image_check.specs.declared.{Fit.Fit, Pass.Pass}
use Rattle.image_check.specs.Inner.{fit_at}
use Rattle.image_check.specs.InnerPass.{Left}
use Rattle.image_check.proofs.FitLaws.{size-least, Met, other-unfit, lease-met}
use Rattle.image_check.proofs.RunLaws.{part-rest}
use Rattle.image_check.proofs.ScanLaws.{due-few, one_left, others-left, Along, along-start, along-lease, stop-end, stop-unfit, stop-low, stop-high}
use Rattle.image_check.proofs.in_pool.Invariants.{Known}
use Rattle.image_check.proofs.in_pool.Goals as goal
use Rattle.image_check.proofs.in_pool.Goals.{then-from-low-via-then-from-low, then-from-low-via-else-from-low+then-stop-lease}

abbrev passed : ℕ → ℕ → Pass
passed at expired = record { at = at; expired = expired }

-- What is read from a place on, of a table with this last time.
read-at : (form : Form) (s : List ℕ) (at last now : ℕ) (o : Option Fit) → now ≡ last → o ≡ fit_at form last (take (length s - at) (drop at s)) → fit_at form now (drop at s) ≡ o
read-at form s at last now o e r = ap (λ (l : ℕ). fit_at form l (drop at s)) e ∙ ap (fit_at form last) (sym (part-rest s at)) ∙ sym r

pub loop-pass-init : goal.loop-pass-init
loop-pass-init c =
    let a = c.args in
    (c.requires, λ x n k begun same lt low stop r. subst (λ (l : ℕ). Along a.form x a.s.now n a.time k l a.from) (sym low) (along-start a.form x a.s.now n a.time begun k lt a.from r))

pub returns-in_default-clause-reached : goal.returns-in_default-clause-reached
returns-in_default-clause-reached c =
    let a = c.args in
    let s = a.s.now in
    let l = c.loop-pass in
    λ x n k begun same lt pool r.
    stop-unfit a.form x s n a.time begun k lt l.low l.pass (l.invariant.1 x n k begun same lt (c.from-low.ensures ∙ ap (λ (q : Prefix). q.network) pool) (c.end-stop.ensures.value ∙ ap end pool) r)
    (other-unfit a.form x.last (drop l.pass.at s) (read-at a.form s l.pass.at a.last x.last _ same c.fit_at.ensures ∙ c.in_default.is))

pub returns-then-from-low-clause-reached : goal.returns-then-from-low-clause-reached
returns-then-from-low-clause-reached c =
    let a = c.args in
    let s = a.s.now in
    let l = c.loop-pass in
    let lease = c.in-Some.lease in
    λ x n k begun same lt pool r.
    let along : Along a.form x s n a.time k l.low l.pass = l.invariant.1 x n k begun same lt (c.from-low.ensures ∙ ap (λ (q : Prefix). q.network) pool) (c.end-stop.ensures.value ∙ ap end pool) r in
    let met : Met a.form x.last (drop l.pass.at s) lease = lease-met a.form x.last (drop l.pass.at s) lease (read-at a.form s l.pass.at a.last x.last _ same c.fit_at.ensures ∙ c.in-Some.is) in
    elim c.then-from-low.branch [
      | then-from-low-via-then-from-low w ↦ stop-low a.form x s n a.time begun k lt l.low l.pass along lease met (omega (arith, c.from.ensures, w.if-from-low.true))
      | then-from-low-via-else-from-low+then-stop-lease w ↦ stop-high a.form x s n a.time begun k lt l.low l.pass along lease met (omega (arith, c.end-stop.ensures.value, ap end pool, w.if-stop-lease.true))
    ]

pub loop-pass-preserved : goal.loop-pass-preserved
loop-pass-preserved c =
    let a = c.args in
    let form = a.form in
    let s = a.s.now in
    let l = c.loop-pass in
    let lease = c.in-Some.lease in
    let bytes : Bytes s = λ i. omega (arith, c.type_inv.s i) in
    let here : l.pass.at < length s = omega arith in
    let left = l.invariant.0 in
    let next : ℕ = l.pass.expired + c.due.result in
    subst (λ (z : ℕ). Left form s (passed (l.pass.at + z) next) × Known form s a.last a.time c.end-stop.result c.from-low.result a.from lease.end (passed (l.pass.at + z) next)) (sym c.lease_size-size.ensures) (
      record {
        left = left.left - 1;
        ends = others-left l.pass.at (length s) left.left form left.ends here;
        few = omega (arith, left.few, c.due.ensures, due-few lease.expires a.time, size-least form);
      },
      λ x n k begun same lt low stop r.
          subst (λ (e : ℕ). Along form x s n a.time k lease.end (passed (l.pass.at + lease_size_in form) (l.pass.expired + e))) (sym c.due.ensures)
          (along-lease form x s n a.time begun k lt l.low l.pass (l.invariant.1 x n k begun same lt low stop r) bytes (one_left l.pass.at (length s) left.left form left.ends here) lease
          (lease-met form x.last (drop l.pass.at s) lease (read-at form s l.pass.at a.last x.last _ same c.fit_at.ensures ∙ c.in-Some.is)) (omega (arith, c.from.ensures)) (omega (arith, stop))),
    )

pub returns-clause-reached : goal.returns-clause-reached
returns-clause-reached c =
    let a = c.args in
    let l = c.loop-pass in
    λ x n k begun same lt pool r.
    stop-end a.form x a.s.now n a.time begun k lt l.low l.pass (l.invariant.1 x n k begun same lt (c.from-low.ensures ∙ ap (λ (q : Prefix). q.network) pool) (c.end-stop.ensures.value ∙ ap end pool) r) (omega arith)
