-- `ask_gaps::gaps_in` meets its contract. The loop's invariant: the gaps that are pushed and those of the pools and leases ahead are all, and each pool
-- and each lease so far made at most one.
use Prim.Native.Nat.{ℕ, ◌+◌, ◌<◌}
use mathlib.Core.Path.{refl, ap, ◌∙◌}
use mathlib.Core.List.{List}
use native.Mathlib.Omega.{arith}
use lib.ListN.{length, length-drop}
use Rattle.image.specs.Image.{head_size}
use Rattle.prefix.specs.Prefixes.{end}
use Rattle.image_check.specs.Inner.{nth_pool}
use Rattle.image_check.proofs.RunLaws.{part-rest}
use Rattle.ask_gaps.proofs.PassLaws.{passed_none, passed-pool, passed-all}
use Rattle.ask_gaps.proofs.gaps_in.Goals as goal

pub loop-k-init : goal.loop-k-init
loop-k-init c =
    let a = c.args in
    (omega arith, omega arith, refl, passed_none a.image.now a.span.pool a.span.pools a.span.from a.span.leases a.time a.gaps.now)

pub overflow_add-span : goal.overflow_add-span
overflow_add-span c =
    let inside : c.loop-k.k < c.args.span.pools = omega arith in
    omega (arith, inside, c.requires.0)

pub pool-pool-requires : goal.pool-pool-requires
pool-pool-requires c =
    let inside : c.loop-k.k < c.args.span.pools = omega arith in
    omega (arith, inside, c.requires.0, length-drop head_size c.args.image.now, ap length (part-rest c.args.image.now head_size))

pub in_pool-at-requires : goal.in_pool-at-requires
in_pool-at-requires c =
    let pre = c.requires in
    let k = c.loop-k.k in
    let is = c.pool-pool.ensures ∙ ap (λ (s : List ℕ). nth_pool s (c.args.span.pool + k)) (part-rest c.args.image.now head_size) in
    (omega arith, omega (arith, pre.3 k (omega arith), ap end is), omega arith, omega arith)

pub loop-k-preserved : goal.loop-k-preserved
loop-k-preserved c =
    let l = c.loop-k in
    let a = c.args in
    let is = c.pool-pool.ensures ∙ ap (λ (s : List ℕ). nth_pool s (a.span.pool + l.k)) (part-rest a.image.now head_size) in
    let went = c.in_pool-at.ensures in (
      went.within,
      omega (arith, went.few, l.invariant.1, went.further),
      c.in_pool-at.auto.gaps ∙ l.invariant.2,
      passed-pool a.image.now a.span.pool a.span.pools a.span.from a.span.leases a.time l.k l.at l.gaps l.invariant.3 (omega arith) c.in_pool-at.result c.in_pool-at.new.gaps
          c.pool-pool.result is went,
    )

pub returns : goal.returns
returns c =
    let l = c.loop-k in
    let a = c.args in record { upper_bound = omega arith; result_after = passed-all a.image.now a.span.pool a.span.pools a.span.from a.span.leases a.time l.k l.at l.gaps l.invariant.3 (omega arith) }
