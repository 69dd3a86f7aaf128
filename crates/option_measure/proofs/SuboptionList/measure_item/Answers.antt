-- `measure_item` meets its contract: an unknown item cannot be written.
use mathlib.Core.Path.{sym, ap}
use Rattle.option.specs.Writer.{writable?}
use Rattle.option_measure.specs.Lists.{value_of}
use Rattle.option_measure.specs.Measuring.{measure_one}
use Rattle.option_measure.specs.declared.Item.{Item}
use Rattle.option_measure.proofs.SuboptionList.measure_item.Goals as goal

pub returns-in-Unknown-clause-value : goal.returns-in-Unknown-clause-value
unfolding measure_one writable?
returns-in-Unknown-clause-value c =
    let a = c.args in
    ap (λ (x : Item). measure_one (value_of a.self.now.entries a.self.now.octets x)) (sym c.in-Unknown.is)
