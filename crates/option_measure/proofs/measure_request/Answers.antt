-- `measure_request` meets its contract.
use borrow.Author.Tests.{le-leb, lt-leb}
use Rattle.option.specs.Rules.{fields?}
use Rattle.option.specs.Writing.{request_bytes, suboption_bytes}
use Rattle.option.specs.Writer.{writable?}
use Rattle.option_measure.specs.Measuring.{measure_one}
use Rattle.option_measure.proofs.measure_request.Goals as goal

pub returns-then-r-gt-LONGEST-clause-value : goal.returns-then-r-gt-LONGEST-clause-value
unfolding measure_one writable? fields?
returns-then-r-gt-LONGEST-clause-value c = simp (lt-leb _ _ c.if-r-gt-LONGEST.true)

pub returns-clause-value : goal.returns-clause-value
unfolding measure_one writable? fields? suboption_bytes request_bytes
returns-clause-value c = simp (le-leb _ _ c.if-r-gt-LONGEST.false)
