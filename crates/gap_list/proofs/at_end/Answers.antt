-- `at_end` meets its contract: the lowest bit of both ends is the size of the smallest whole prefix at an end.
use Prim.Native.Nat.{◌-◌}
use native.Mathlib.Omega.{arith}
use lib.Bits.{and_le_l}
use Rattle.gap_list.proofs.EndLaws.{positive, bit_is, bit-positive, bit-fits, found-low, found-high}
use Rattle.gap_list.proofs.at_end.Goals as goal

pub overflow_sub-size : goal.overflow_sub-size
overflow_sub-size c = omega (arith, positive c.args.low c.args.high c.requires.0 c.requires.1)

pub overflow_sub-size-2 : goal.overflow_sub-size-2
overflow_sub-size-2 c = and_le_l c.args.ends (c.args.ends - 1)

pub overflow_add-size : goal.overflow_add-size
overflow_add-size c =
    let a = c.args in
    let is = bit_is a.low a.high c.requires.0 c.requires.1 a.ends c.requires.2 in
    omega (arith, bit-fits a.low a.high c.requires.0 c.requires.1 _ is)

pub overflow_sub-size-3 : goal.overflow_sub-size-3
overflow_sub-size-3 c =
    let a = c.args in
    let is = bit_is a.low a.high c.requires.0 c.requires.1 a.ends c.requires.2 in
    omega (arith, bit-positive a.low a.high c.requires.0 c.requires.1 _ is)

pub returns-then-low-size-ne0 : goal.returns-then-low-size-ne0
returns-then-low-size-ne0 c stop l best long at_low at_high odd =
    let a = c.args in
    let is = bit_is a.low a.high c.requires.0 c.requires.1 a.ends c.requires.2 in
    found-low a.low a.high c.requires.0 c.requires.1 _ is stop l best long at_low at_high odd c.if-low-size-ne0.true

pub overflow_sub-result : goal.overflow_sub-result
overflow_sub-result c =
    let a = c.args in
    let is = bit_is a.low a.high c.requires.0 c.requires.1 a.ends c.requires.2 in
    omega (arith, bit-fits a.low a.high c.requires.0 c.requires.1 _ is)

pub returns : goal.returns
returns c stop l best long at_low at_high odd =
    let a = c.args in
    let is = bit_is a.low a.high c.requires.0 c.requires.1 a.ends c.requires.2 in
    found-high a.low a.high c.requires.0 c.requires.1 _ is stop l best long at_low at_high odd c.if-low-size-ne0.false
