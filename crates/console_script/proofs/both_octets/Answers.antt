-- `both_octets` meets its contract: the two parts of the line that it lends have nothing in common.
use Prim.Native.Nat.{◌-◌}
use native.Mathlib.Omega.{arith}
use lib.ListN.{length}
use borrow.Rule.Slice.PartMut.{post_of}
use Rattle.console_script.proofs.MessageLaws.{both-bad, both-lent}
use Rattle.console_script.proofs.both_octets.Goals as goal

pub returns-in_err-option-clause-result_after : goal.returns-in_err-option-clause-result_after
returns-in_err-option-clause-result_after c =
    let s = c.args.s.now in
    let end = c.args.end in
    rw c.from_residual-in_err-option.ensures (both-bad s c.args.begin end c.requires.0 c.requires.1 c.last_octets.new.s (post_of end (length s - end) s) c.in_err-option.ensures.end_after)

pub returns-clause-result_after : goal.returns-clause-result_after
returns-clause-result_after c =
    let s = c.args.s.now in
    let end = c.args.end in
    let second = c.in_ok-second in
    let first = c.in_ok-option in
    both-lent s c.args.begin end c.requires.0 c.requires.1 c.last_octets.new.s (post_of end (length s - end) s) second.second (omega (arith, second.ensures.within.1, c.last_octets.auto.s)) second.ensures.within.0 second.ensures.end_after c.read_octets.new.s first.option c.read_octets.auto.s first.ensures.within.0 (omega (arith, first.ensures.within.1, c.read_octets.auto.s)) first.ensures.end_after
