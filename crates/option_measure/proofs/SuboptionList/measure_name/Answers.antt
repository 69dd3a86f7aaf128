-- `measure_name` meets its contract: each answer is that of the first rule that fails.
use native.Mathlib.Omega.{arith}
use mathlib.Core.Path.{◌≡◌, sym, ap, ◌∙◌}
use lib.ListN.{length}
use Rattle.option.specs.Rules.{final}
use Rattle.option_measure.proofs.PartLaws.{length_is_part}
use Rattle.option_measure.proofs.MeasureLaws.{name-unplaced, name-empty, name-zero, name-measured}
use Rattle.option_measure.proofs.SuboptionList.measure_name.Goals as goal

pub returns-in_err-octets-clause-value : goal.returns-in_err-octets-clause-value
returns-in_err-octets-clause-value c =
    let a = c.args in
    let full : length a.self.now.octets ≡ 256 = omega arith in
    c.from_residual.ensures ∙ name-unplaced a.self.now.octets a.n (omega (arith, full, c.in_err-octets.ensures))

pub returns-in_err-last-clause-value : goal.returns-in_err-last-clause-value
returns-in_err-last-clause-value c =
    let a = c.args in
    let full : length a.self.now.octets ≡ 256 = omega arith in
    let p = c.in_ok-octets.ensures in
    let none = c.in_err-last.ensures.item.3 in
    c.from_residual-in_err-last.ensures
    ∙ name-empty a.self.now.octets a.n full (omega (arith, full, p.0)) (omega (arith, none, length_is_part a.self.now.octets a.n.first _ a.n.count p.1 p.0))

pub returns-then-branch-eq0-clause-value : goal.returns-then-branch-eq0-clause-value
returns-then-branch-eq0-clause-value c =
    let a = c.args in
    let full : length a.self.now.octets ≡ 256 = omega arith in
    let p = c.in_ok-octets.ensures in
    let last = c.in_ok-last.ensures.item.3.1 0 in
    name-zero a.self.now.octets a.n full (omega (arith, full, p.0)) (sym (ap final p.1) ∙ sym last ∙ c.if-branch-eq0.true)

pub returns-clause-value : goal.returns-clause-value
returns-clause-value c =
    let a = c.args in
    let full : length a.self.now.octets ≡ 256 = omega arith in
    let p = c.in_ok-octets.ensures in
    let last = c.in_ok-last.ensures.item.3 in
    name-measured a.self.now.octets a.n full (omega (arith, full, p.0))
    (omega (arith, last.0, length_is_part a.self.now.octets a.n.first _ a.n.count p.1 p.0))
    (λ h. c.if-branch-eq0.false (last.1 0 ∙ ap final p.1 ∙ h))
