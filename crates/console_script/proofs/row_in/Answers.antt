-- `row_in` meets its contract: after j turns the first j numbers are read.
use Prim.Native.Nat.{ℕ}
use mathlib.Core.Path.{◌≡◌, sym, ap, ◌∙◌}
use native.Mathlib.Omega.{arith}
use lib.ListN.{drop, replicate, length-replicate, length-set}
use lib.Seq.{take_all}
use Rattle.counts.specs.Counts.{counted_lengths}
use Rattle.console_script.specs.CountOctets.{numbers_in}
use Rattle.console_script.proofs.CountOctetLaws.{none_read, number-stored}
use Rattle.console_script.proofs.row_in.Goals as goal

pub loop-j-init : goal.loop-j-init
loop-j-init c = (length-replicate {A = ℕ} counted_lengths 0, none_read (drop c.args.at c.args.octets.now) (replicate {A = ℕ} counted_lengths 0))

pub loop-j-preserved : goal.loop-j-preserved
loop-j-preserved c =
    let v = c.from_le_bytes.result in
    (omega (arith, length-set c.loop-j.row c.loop-j.j v), number-stored c.args.octets.now c.args.at c.loop-j.row c.loop-j.j v (omega arith) c.loop-j.invariant.1 (omega (arith, c.from_le_bytes.ensures)))

pub returns : goal.returns
returns c =
    let s = drop c.args.at c.args.octets.now in
    let all : c.loop-j.j ≡ counted_lengths = omega arith in
    sym (take_all c.loop-j.j c.loop-j.row (omega arith)) ∙ c.loop-j.invariant.1 ∙ ap (λ (n : ℕ). numbers_in n s) all
