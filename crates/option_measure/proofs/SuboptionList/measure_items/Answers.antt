-- `measure_items` meets its contract. The loop's invariant: what is measured of all is `n` and what is measured from `item` on.
use native.Mathlib.Omega.{arith}
use mathlib.Core.Path.{◌≡◌, sym, ap, ◌∙◌}
use mathlib.Core.List.{List, map}
use lib.ListN.{length, length-map}
use borrow.Author.Tests.{true-eqb, false-eqb}
use Rattle.option.specs.Writing.{suboption_bytes}
use Rattle.option.specs.Writer.{writable?}
use Rattle.option_measure.specs.Lists.{value_of}
use Rattle.option_measure.specs.Measuring.{measure_of, measure_one}
use Rattle.option_measure.specs.declared.Item.{Item}
use Rattle.option_measure.proofs.PartLaws.{length_is_part}
use Rattle.option_measure.proofs.MeasureLaws.{plus-zero, measure-end, turn-more, turn-none, listed-none, listed-empty, listed-measured}
use Rattle.option_measure.proofs.SuboptionList.measure_items.Goals as goal

pub returns-in_err-items-clause-value : goal.returns-in_err-items-clause-value
returns-in_err-items-clause-value c =
    let a = c.args.self.now in
    let full : length a.items ≡ 96 = omega arith in
    c.from_residual.ensures ∙ listed-none a.items a.count a.entries a.octets (omega (arith, full, c.in_err-items.ensures))

pub returns-then-is_empty-clause-value : goal.returns-then-is_empty-clause-value
returns-then-is_empty-clause-value c =
    let a = c.args.self.now in
    let p = c.in_ok-items.ensures in
    let none = true-eqb _ _ c.if-is_empty.ensures in
    listed-empty a.items a.count a.entries a.octets (omega (arith, none, length_is_part a.items 0 _ a.count p.1 p.0))

pub loop-item-init : goal.loop-item-init
loop-item-init c = record { short = omega arith; measured = sym (plus-zero _) }

pub returns-in_err-n-clause-value : goal.returns-in_err-n-clause-value
unfolding measure_one
returns-in_err-n-clause-value c =
    let a = c.args.self.now in
    let full : length a.items ≡ 96 = omega arith in
    let p = c.in_ok-items.ensures in
    let some = false-eqb _ _ c.if-is_empty.ensures in
    let size = length_is_part a.items 0 _ a.count p.1 p.0 in
    c.from_residual-in_err-n.ensures
    ∙ sym (listed-measured a.items a.count a.entries a.octets (omega (arith, some, size)) (omega (arith, full, p.0)) (omega (arith, p.0))
    ∙ ap (λ (l : List Item). measure_of writable? suboption_bytes (map (value_of a.entries a.octets) l)) (sym p.1)
    ∙ c.loop-item.invariant.measured
    ∙ turn-none writable? suboption_bytes (value_of a.entries a.octets) c.in_ok-items.items.now _ _ _ (omega arith) (sym c.measure_item.ensures.value ∙ c.in_err-n.was))

pub loop-item-preserved : goal.loop-item-preserved
unfolding measure_one
loop-item-preserved c =
    let a = c.args.self.now in record {
      short = omega (arith, c.loop-item.invariant.short, c.in_ok-n.ensures.short);
      measured = c.loop-item.invariant.measured
          ∙ turn-more writable? suboption_bytes (value_of a.entries a.octets) c.in_ok-items.items.now _ _ _ (omega arith) _ (sym c.measure_item.ensures.value ∙ c.in_ok-n.was);
    }

pub returns-clause-value : goal.returns-clause-value
returns-clause-value c =
    let a = c.args.self.now in
    let full : length a.items ≡ 96 = omega arith in
    let p = c.in_ok-items.ensures in
    let some = false-eqb _ _ c.if-is_empty.ensures in
    let size = length_is_part a.items 0 _ a.count p.1 p.0 in
    let subs = map (value_of a.entries a.octets) c.in_ok-items.items.now in
    sym (listed-measured a.items a.count a.entries a.octets (omega (arith, some, size)) (omega (arith, full, p.0)) (omega (arith, p.0))
    ∙ ap (λ (l : List Item). measure_of writable? suboption_bytes (map (value_of a.entries a.octets) l)) (sym p.1)
    ∙ c.loop-item.invariant.measured
    ∙ measure-end writable? suboption_bytes subs c.loop-item.item-index _ (omega (arith, length-map c.in_ok-items.items.now (value_of a.entries a.octets))))
