-- `alone_or` meets its contract.
use mathlib.Core.Path.{sym, ◌∙◌}
use native.Mathlib.Omega.{arith}
use Rattle.console_words.proofs.WordLaws.{length-between}
use Rattle.console_script.proofs.LineLaws.{is-alone, no-octets, of-another-size, of-its-size}
use Rattle.console_script.proofs.alone_or.Goals as goal

pub returns-then-ends-clause-result_after : goal.returns-then-ends-clause-result_after
returns-then-ends-clause-result_after c alone f = is-alone alone _ f _ (sym c.ends.ensures ∙ c.if-ends.true)

pub returns-in_err-octets-clause-result_after : goal.returns-in_err-octets-clause-result_after
returns-in_err-octets-clause-result_after c alone f = rw c.from_residual.ensures (no-octets alone _ f _ (sym c.ends.ensures ∙ c.if-ends.false) c.in_err-octets.ensures.end_after)

pub returns-then-octets-size-clause-result_after : goal.returns-then-octets-size-clause-result_after
returns-then-octets-size-clause-result_after c alone f =
    let o = c.in_ok-octets in
    let size = length-between c.last_octets.new.s o.octets.start o.octets.end o.ensures.within.0 (omega (arith, o.ensures.within.1, c.last_octets.auto.s)) in
    of-another-size alone _ f _ (sym c.ends.ensures ∙ c.if-ends.false) _ o.ensures.end_after (λ e. c.if-octets-size.true (sym size ∙ e))

pub returns-clause-result_after : goal.returns-clause-result_after
returns-clause-result_after c alone f =
    let o = c.in_ok-octets in
    let size = length-between c.last_octets.new.s o.octets.start o.octets.end o.ensures.within.0 (omega (arith, o.ensures.within.1, c.last_octets.auto.s)) in
    of-its-size alone _ f _ (sym c.ends.ensures ∙ c.if-ends.false) _ o.ensures.end_after (size ∙ c.if-octets-size.false)
