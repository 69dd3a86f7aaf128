-- `read_octets` meets its contract.
use native.Mathlib.Omega.{arith}
use Prim.Native.Nat.{◌-◌}
use mathlib.Core.Path.{◌∙◌}
use borrow.Rule.Slice.PartMut.{post_of}
use Rattle.console_words.proofs.WordLaws.{length-between}
use Rattle.console_words.proofs.OctetLaws.{octets-none, octets-dash, octets-one, octets-odd, octets-none-lent, octets-lent, in-none}
use Rattle.console_words.proofs.read_octets.Goals as goal
use Rattle.console_words.proofs.read_octets.Goals.{else-n-eq1-via-then-n-eq1+else-s-start-eq45, else-n-eq1-via-else-n-eq1}

pub returns-then-n-eq0-clause-end_after : goal.returns-then-n-eq0-clause-end_after
returns-then-n-eq0-clause-end_after c = octets-none _ c.args.start c.args.end (omega arith)

pub returns-then-s-start-eq45-clause-end_after : goal.returns-then-s-start-eq45-clause-end_after
returns-then-s-start-eq45-clause-end_after c = in-none c.args.s.now c.args.start ∙ octets-dash _ c.args.start c.args.end (omega arith) (omega arith) (omega arith) c.if-s-start-eq45.true

pub returns-then-n-eq1-2-clause-end_after : goal.returns-then-n-eq1-2-clause-end_after
returns-then-n-eq1-2-clause-end_after c =
    elim c.else-n-eq1.branch [
      | else-n-eq1-via-then-n-eq1+else-s-start-eq45 w ↦ octets-one _ c.args.start c.args.end (omega arith) (omega arith) (omega arith) w.if-s-start-eq45.false
      | else-n-eq1-via-else-n-eq1 w ↦ octets-odd _ c.args.start c.args.end (omega arith) (omega arith) (omega arith) c.if-n-eq1-2.true
    ]

pub returns-in_err-count-clause-end_after : goal.returns-in_err-count-clause-end_after
returns-in_err-count-clause-end_after c = rw c.from_residual.ensures (octets-none-lent c.args.s.now c.args.start c.args.end (omega arith) (omega arith) (omega arith) c.in_err-count.ensures.value)

pub returns-clause-end_after : goal.returns-clause-end_after
returns-clause-end_after c =
    let s = c.args.s.now in
    let start = c.args.start in
    let end = c.args.end in
    octets-lent s start end (omega arith) (omega arith) (omega arith) c.in_ok-count.count c.pairs.new.s (post_of start (end - start) s) (omega (arith, c.in_ok-count.ensures.count, c.pairs.auto.s, length-between s start end)) c.in_ok-count.ensures.value
