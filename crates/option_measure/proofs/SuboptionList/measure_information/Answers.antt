-- `measure_information` meets its contract: each answer is that of the first rule that fails.
use native.Mathlib.Omega.{arith}
use mathlib.Core.Path.{◌≡◌, sym, ap, ◌∙◌}
use mathlib.Core.List.{List, map}
use lib.ListN.{length}
use borrow.Author.Tests.{true-eqb, false-eqb}
use Rattle.option.specs.Writing.{entry_bytes}
use Rattle.option.specs.Writer.{entry_writable?}
use Rattle.option_entry.specs.declared.EntryFields.{EntryFields}
use Rattle.option_measure.specs.Lists.{entry_of}
use Rattle.option_measure.specs.Measuring.{measure_of}
use Rattle.option_measure.proofs.PartLaws.{length_is_part}
use Rattle.option_measure.proofs.MeasureLaws.{information-unplaced, information-empty, information-measured, information-outside}
use Rattle.option_measure.proofs.SuboptionList.measure_information.Goals as goal

pub returns-in_err-entries-clause-value : goal.returns-in_err-entries-clause-value
returns-in_err-entries-clause-value c =
    let a = c.args in
    let full : length a.self.now.entries ≡ 64 = omega arith in
    c.from_residual.ensures ∙ information-unplaced a.self.now.entries a.f (omega (arith, full, c.in_err-entries.ensures))

pub returns-then-is_empty-clause-value : goal.returns-then-is_empty-clause-value
returns-then-is_empty-clause-value c =
    let a = c.args in
    let full : length a.self.now.entries ≡ 64 = omega arith in
    let p = c.in_ok-entries.ensures in
    let none = true-eqb _ _ c.if-is_empty.ensures in
    information-empty a.self.now.entries a.f (omega (arith, full, p.0)) (omega (arith, none, length_is_part a.self.now.entries a.f.first _ a.f.count p.1 p.0))

pub returns-in_err-n-clause-value : goal.returns-in_err-n-clause-value
returns-in_err-n-clause-value c =
    let a = c.args in
    let full : length a.self.now.entries ≡ 64 = omega arith in
    let p = c.in_ok-entries.ensures in
    c.from_residual-in_err-n.ensures
    ∙ information-outside a.self.now.entries a.f (omega (arith, full, p.0))
    (ap (λ (l : List EntryFields). measure_of entry_writable? entry_bytes (map entry_of l)) (sym p.1) ∙ sym c.measure_entries.ensures.value ∙ c.in_err-n.was)

pub returns-clause-value : goal.returns-clause-value
returns-clause-value c =
    let a = c.args in
    let full : length a.self.now.entries ≡ 64 = omega arith in
    let p = c.in_ok-entries.ensures in
    let some = false-eqb _ _ c.if-is_empty.ensures in
    information-measured a.self.now.entries a.f (omega (arith, full, p.0)) _ full
    (omega (arith, some, length_is_part a.self.now.entries a.f.first _ a.f.count p.1 p.0))
    (ap (λ (l : List EntryFields). measure_of entry_writable? entry_bytes (map entry_of l)) (sym p.1) ∙ sym c.measure_entries.ensures.value ∙ c.in_ok-n.was)
