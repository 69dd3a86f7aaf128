-- `image_counts::in_pool` meets its contract. The loop's invariant: the leases counted, on both sides, and those still to count are all. The measure is the
-- number of leases ahead.
use Prim.Native.Nat.{ℕ, ◌+◌, ◌*◌, ◌%◌}
use mathlib.Core.Path.{◌≡◌, refl, sym, subst, ◌∙◌}
use mathlib.Core.List.{List}
use native.Mathlib.Omega.{arith}
use lib.ListN.{get_or, set, replicate, length-set}
use Rattle.image_counts.specs.InnerTally.{open_lengths, zeros, both_of, Tallied}
use Rattle.image_counts.proofs.TallyLaws.{Counting, counting-first, counting_more, counting-stop, counting-end}
use Rattle.image_counts.proofs.SideLaws.{side-first, side-more, side-few}
use Rattle.image_counts.proofs.in_pool.Goals as goal

pub bounds-sides-bottom : goal.bounds-sides-bottom
bounds-sides-bottom c =
    let a = c.args in
    let pre = c.requires in
    omega (arith, pre.4 a.at pre.2, c.length_at-bottom.ensures)

pub loop-i-init : goal.loop-i-init
loop-i-init c =
    let a = c.args in
    let pre = c.requires in
    let end = c.end-stop in
    let read = c.network_at-before in (
      subst (λ (closed : List ℕ). Counting a.image.now a.from a.n end.result a.p.length a.at (set zeros a.p.length 1) closed read.result (a.at + 1))
          (sym (side-first c.length_at-bottom.result (omega (arith, pre.4 a.at pre.2, c.length_at-bottom.ensures))))
          (counting-first a.image.now a.from a.n end.result a.p.length a.at pre.2 (omega (arith, pre.5, end.ensures.value))
          read.result c.length_at-bottom.result read.ensures c.length_at-bottom.ensures),
      length-set (replicate {A = ℕ} (2 * open_lengths) 0) c.length_at-bottom.result 1,
    )

pub returns-then-stop-network : goal.returns-then-stop-network
returns-then-stop-network c =
    let a = c.args in
    let pre = c.requires in
    let end = c.end-stop in
    let loop = c.loop-i in
    let read = c.network_at-network in
    counting-stop a.image.now a.from a.n end.result a.p.length a.at loop.opened loop.sides loop.before loop.i loop.invariant.0 a.p end.ensures.value refl pre.1
    (omega arith) (omega (arith, read.ensures, c.if-stop-network.true))

pub overflow_add-opened : goal.overflow_add-opened
overflow_add-opened c =
    let a = c.args in
    let pre = c.requires in
    let end = c.end-stop in
    let loop = c.loop-i in
    omega (arith, loop.invariant.0.few-opened (c.common_bits.result + 1), loop.invariant.0.within, pre.1)

pub bounds-sides-side : goal.bounds-sides-side
bounds-sides-side c =
    let a = c.args in
    let pre = c.requires in
    let end = c.end-stop in
    let loop = c.loop-i in
    omega (arith, pre.4 loop.i (omega arith), c.length_at-l.ensures)

pub overflow_add-sides-in-loop-i : goal.overflow_add-sides-in-loop-i
overflow_add-sides-in-loop-i c =
    let a = c.args in
    let pre = c.requires in
    let loop = c.loop-i in
    let l = c.length_at-l in
    omega (
      arith,
      side-few loop.sides (loop.i % 2) l.result a.n (omega arith) (omega (arith, pre.4 loop.i (omega arith), l.ensures))
          (omega (arith, loop.invariant.0.few-closed l.result, loop.invariant.0.within)),
      pre.1,
    )

pub bounds-sides-side-in-loop-i : goal.bounds-sides-side-in-loop-i
bounds-sides-side-in-loop-i c =
    let a = c.args in
    let pre = c.requires in
    let end = c.end-stop in
    let loop = c.loop-i in
    omega (arith, pre.4 loop.i (omega arith), c.length_at-l.ensures)

pub loop-i-preserved : goal.loop-i-preserved
loop-i-preserved c =
    let a = c.args in
    let pre = c.requires in
    let end = c.end-stop in
    let loop = c.loop-i in
    let read = c.network_at-network in
    let common = c.common_bits in
    let k : ℕ = common.result + 1 in
    let l = c.length_at-l in
    let side : ℕ = open_lengths * (loop.i % 2) + l.result in (
      subst (λ (closed : List ℕ). Counting a.image.now a.from a.n end.result a.p.length a.at (set loop.opened k (get_or loop.opened k 0 + 1)) closed read.result (loop.i + 1))
          (sym (side-more loop.sides (loop.i % 2) l.result (omega arith) (omega (arith, pre.4 loop.i (omega arith), l.ensures)) loop.invariant.1))
          (counting_more a.image.now a.from a.n end.result a.p.length a.at loop.opened (both_of loop.sides) loop.before loop.i loop.invariant.0 (omega arith)
          read.result k l.result read.ensures (omega (arith, common.ensures.0)) l.ensures (omega (arith, c.if-stop-network.false))),
      length-set loop.sides side (get_or loop.sides side 0 + 1) ∙ loop.invariant.1,
    )

pub returns : goal.returns
returns c =
    let a = c.args in
    let pre = c.requires in
    let end = c.end-stop in
    let loop = c.loop-i in
    let all : loop.i ≡ a.n = omega arith in
    subst (λ (k : ℕ). Tallied a.image.now a.from a.n a.p a.at (record { next = k; opened = loop.opened; sides = loop.sides })) all
    (counting-end a.image.now a.from a.n end.result a.p.length a.at loop.opened loop.sides loop.before loop.i loop.invariant.0 a.p end.ensures.value refl pre.1
    (omega arith))
