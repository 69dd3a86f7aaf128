-- `measure_entries` meets its contract. The loop's invariant: what is measured of all is `n` and what is measured from `e` on.
use native.Mathlib.Omega.{arith}
use mathlib.Core.Path.{sym, ◌∙◌}
use mathlib.Core.List.{map}
use lib.ListN.{length-map}
use Rattle.option.specs.Writing.{entry_bytes}
use Rattle.option.specs.Writer.{entry_writable?}
use Rattle.option_measure.specs.Lists.{entry_of}
use Rattle.option_measure.proofs.MeasureLaws.{plus-zero, measure-end, turn-more, turn-none}
use Rattle.option_measure.proofs.measure_entries.Goals as goal

pub loop-e-init : goal.loop-e-init
loop-e-init c = record { short = omega arith; measured = sym (plus-zero _) }

pub returns-in_err-n-clause-value : goal.returns-in_err-n-clause-value
returns-in_err-n-clause-value c =
    c.from_residual.ensures
    ∙ sym (c.loop-e.invariant.measured ∙ turn-none entry_writable? entry_bytes entry_of c.args.entries.now _ _ _ (omega arith) (sym c.measure_entry.ensures.value ∙ c.in_err-n.was))

pub loop-e-preserved : goal.loop-e-preserved
loop-e-preserved c = record {
  short = omega (arith, c.loop-e.invariant.short, c.in_ok-n.ensures.short);
  measured = c.loop-e.invariant.measured ∙ turn-more entry_writable? entry_bytes entry_of c.args.entries.now _ _ _ (omega arith) _ (sym c.measure_entry.ensures.value ∙ c.in_ok-n.was);
}

pub returns-clause-value : goal.returns-clause-value
returns-clause-value c =
    sym (c.loop-e.invariant.measured ∙ measure-end entry_writable? entry_bytes (map entry_of c.args.entries.now) c.loop-e.e-index _ (omega (arith, length-map c.args.entries.now entry_of)))
