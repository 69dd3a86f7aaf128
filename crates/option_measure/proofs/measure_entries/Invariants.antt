use Prim.Native.Nat.{◌*◌, ◌≤◌}
use mathlib.Core.Path.{◌≡◌}
use mathlib.Core.List.{map}
use lib.ListN.{drop}
use Rattle.option.specs.Writing.{entry_bytes}
use Rattle.option.specs.Writer.{entry_writable?}
use Rattle.option_measure.specs.Lists.{entry_of}
use Rattle.option_measure.specs.Measuring.{measure_of}
use Rattle.option_measure.proofs.MeasureLaws.{plus}
use Rattle.option_measure.proofs.measure_entries.Given as goal

abbrev pub invariant-loop-e : goal.invariant-loop-e
invariant-loop-e l = record {
  short : l.n ≤ 13 * l.e-index;
  measured : measure_of entry_writable? entry_bytes (map entry_of l.entries) ≡ plus l.n (measure_of entry_writable? entry_bytes (drop l.e-index (map entry_of l.entries)));
}
