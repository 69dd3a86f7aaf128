-- `mark_lease` meets its contract: row 11, or the lease marked.
use mathlib.Core.Path.{sym, ap, ◌∙◌}
use native.Mathlib.Omega.{arith}
use Rattle.prefix.specs.Prefixes.{checked}
use Rattle.call_spec.specs.ImageCalls.{lent}
use Rattle.call_mark.proofs.MarkLaws.{mark-no-block, mark-none, mark-other, mark-found}
use Rattle.call_mark.proofs.mark_lease.Goals.{then-x-p-via-then-x-p, then-x-p-via-else-x-p+then-x-p-2, then-x-p-via-else-x-p+else-x-p-2+then-x-time}
use Rattle.call_mark.proofs.mark_lease.Goals as goal

-- The prefix is no block.
pub returns-in_default : goal.returns-in_default
returns-in_default c =
    let a = c.args in
    mark-no-block (lent a.image.now a.image_bytes.now a.figures.now) a.time a.network a.length a.deprecated a.summary c.requires
    (λ p e. c.in_default.not-Ok p (c.new.ensures ∙ ap (checked a.network) c.length_of.ensures ∙ e))

pub returns-then-place-eq0 : goal.returns-then-place-eq0
returns-then-place-eq0 c =
    let a = c.args in
    mark-none (lent a.image.now a.image_bytes.now a.figures.now) a.time a.network a.length a.deprecated a.summary c.requires
    c.in-Ok.p (ap (checked a.network) (sym c.length_of.ensures) ∙ sym c.new.ensures ∙ c.in-Ok.is)
    c.place_after-place.result c.place_after-place.ensures.value c.if-place-eq0.true

-- The lease there is another one, or has expired.
pub returns-then-x-p : goal.returns-then-x-p
returns-then-x-p c =
    let a = c.args in
    mark-other (lent a.image.now a.image_bytes.now a.figures.now) a.time a.network a.length a.deprecated a.summary c.requires
    c.in-Ok.p (ap (checked a.network) (sym c.length_of.ensures) ∙ sym c.new.ensures ∙ c.in-Ok.is)
    c.place_after-place.result c.place_after-place.ensures.value c.if-place-eq0.false c.lease_at-x.result c.lease_at-x.ensures
    (λ n l e. elim c.then-x-p.branch [
      | then-x-p-via-then-x-p w ↦ w.if-x-p.true n
      | then-x-p-via-else-x-p+then-x-p-2 w ↦ w.if-x-p-2.true l
      | then-x-p-via-else-x-p+else-x-p-2+then-x-time w ↦ omega (arith, w.if-x-time.true, e)
    ])

pub returns : goal.returns
returns c =
    let a = c.args in
    mark-found (lent a.image.now a.image_bytes.now a.figures.now) a.time a.network a.length a.deprecated a.summary c.requires
    c.in-Ok.p (ap (checked a.network) (sym c.length_of.ensures) ∙ sym c.new.ensures ∙ c.in-Ok.is)
    c.place_after-place.result c.place_after-place.ensures.value c.if-place-eq0.false c.lease_at-x.result c.lease_at-x.ensures
    c.if-x-p.false c.if-x-p-2.false c.if-x-time.false
    c.put_lease.new.out c.remove_expired.new.image c.remove_expired.result c.put_lease.ensures c.remove_expired.ensures c.strike_expired.new.figures c.strike_expired.ensures
