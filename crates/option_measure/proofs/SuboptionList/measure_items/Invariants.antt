use Prim.Native.Nat.{◌*◌, ◌≤◌}
use mathlib.Core.Path.{◌≡◌}
use mathlib.Core.List.{map}
use lib.ListN.{drop}
use Rattle.option.specs.Writing.{suboption_bytes}
use Rattle.option.specs.Writer.{writable?}
use Rattle.option_measure.specs.Lists.{value_of}
use Rattle.option_measure.specs.Measuring.{measure_of}
use Rattle.option_measure.proofs.MeasureLaws.{plus}
use Rattle.option_measure.proofs.SuboptionList.measure_items.Given as goal

abbrev pub invariant-loop-item : goal.invariant-loop-item
invariant-loop-item l = record {
  short : l.n ≤ 900 * l.item-index;
  measured : measure_of writable? suboption_bytes (map (value_of l.self.entries l.self.octets) l.items)
      ≡ plus l.n (measure_of writable? suboption_bytes (drop l.item-index (map (value_of l.self.entries l.self.octets) l.items)));
}
