-- `request_at` meets its contract: the framing, then the length.
use Prim.Native.Nat.{◌+◌}
use native.Mathlib.Omega.{arith}
use lib.ListN.{get_or}
use borrow.Author.Tests.{eq-eqb, ne_eqb, le-leb, lt-leb}
use Rattle.option.specs.Rules.{fields?}
use Rattle.option.specs.Reading.{read_request, when_good}
use Rattle.option.proofs.request_at.Goals as goal

pub returns-then-end-at : goal.returns-then-end-at
unfolding read_request when_good
returns-then-end-at c = simp (ne_eqb _ _ c.if-end-at.true)

pub returns-then-length-gt-LONGEST : goal.returns-then-length-gt-LONGEST
unfolding read_request when_good fields?
returns-then-length-gt-LONGEST c = simp (eq-eqb _ _ c.if-end-at.false, lt-leb _ _ c.if-length-gt-LONGEST.true)

pub returns : goal.returns
unfolding read_request when_good fields?
returns c = simp (eq-eqb _ _ c.if-end-at.false, le-leb (get_or c.args.s.now (c.args.at + 3) 0) 30 (omega arith))
