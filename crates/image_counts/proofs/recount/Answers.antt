-- `image_counts::recount` meets its contract. The invariant of both loops: the rows filled and those of the pools and leases ahead are all; in the second
-- no lease is ahead.
use Prim.Native.Nat.{ℕ, ◌<◌, ◌≤◌}
use mathlib.Core.Path.{◌≡◌, refl, sym, ap, subst, ◌∙◌}
use mathlib.Core.List.{List}
use native.Mathlib.Omega.{arith}
use lib.ListN.{length, drop, length-drop}
use Rattle.image.specs.Image.{head_size}
use Rattle.image_check.specs.Inner.{nth_pool}
use Rattle.image_check.proofs.RunLaws.{part-rest}
use Rattle.image_counts.specs.Standing.{SomeTable}
use Rattle.image_counts.proofs.PlaceLaws.{Facts, facts}
use Rattle.image_counts.proofs.PassLaws.{Passed, passed_none, passed-ready, passed-row, passed-pool, passed-bare, passed-all}
use Rattle.image_counts.proofs.recount.Goals as goal
use Rattle.image_counts.proofs.recount.Goals.{else-loop-j-test, then-loop-j-test+then-leases-next}

known : (image : List ℕ) (pools leases : ℕ) (some : SomeTable image pools leases) → Facts some.table image pools leases some.stands
known image pools leases some = facts some.table image pools leases some.stands

pub overflow_mul-from : goal.overflow_mul-from
overflow_mul-from c =
    let a = c.args in
    let f = known a.image.now a.pools a.leases c.requires in
    omega (arith, f.few-pools)

pub overflow_add-from : goal.overflow_add-from
overflow_add-from c =
    let a = c.args in
    let f = known a.image.now a.pools a.leases c.requires in
    omega (arith, f.few-pools)

pub loop-j-init : goal.loop-j-init
loop-j-init c =
    let a = c.args in
    let f = known a.image.now a.pools a.leases c.requires in
    (passed_none a.image.now a.pools a.leases f.laid, refl)

pub slice_bounds-pool-count : goal.slice_bounds-pool-count
slice_bounds-pool-count c =
    let a = c.args in
    let f = known a.image.now a.pools a.leases c.requires in
    omega (arith, f.room)

pub slice_bounds-pool-start : goal.slice_bounds-pool-start
slice_bounds-pool-start c =
    let a = c.args in
    let f = known a.image.now a.pools a.leases c.requires in
    omega (arith, f.room)

pub pool-p-requires : goal.pool-p-requires
pool-p-requires c =
    let a = c.args in
    let f = known a.image.now a.pools a.leases c.requires in
    omega (arith, f.room, ap length (part-rest a.image.now head_size), length-drop head_size a.image.now)

pub offset_bounds-counts-j : goal.offset_bounds-counts-j
offset_bounds-counts-j c =
    let a = c.args in
    let f = known a.image.now a.pools a.leases c.requires in
    omega (arith, f.few-pools)

pub bounds-counts-j : goal.bounds-counts-j
bounds-counts-j c =
    let a = c.args in
    let f = known a.image.now a.pools a.leases c.requires in
    omega (arith, f.few-pools)

pub pool_row-next-requires : goal.pool_row-next-requires
pool_row-next-requires c =
    let a = c.args in
    let f = known a.image.now a.pools a.leases c.requires in
    let loop = c.loop-j in
    let inside : loop.j < a.pools = omega arith in
    let read : c.pool-p.result ≡ nth_pool (drop head_size a.image.now) loop.j = c.pool-p.ensures ∙ ap (λ (s : List ℕ). nth_pool s loop.j) (part-rest a.image.now head_size) in (
      passed-ready a.image.now a.pools a.leases loop.j loop.next loop.counts loop.invariant.0 inside c.pool-p.result read f.few-leases f.room f.short,
      omega arith,
      passed-row a.image.now a.pools a.leases loop.j loop.next loop.counts loop.invariant.0 inside c.pool-p.result read f.few-pools,
    )

pub loop-j-preserved : goal.loop-j-preserved
loop-j-preserved c =
    let a = c.args in
    let f = known a.image.now a.pools a.leases c.requires in
    let loop = c.loop-j in
    let inside : loop.j < a.pools = omega arith in
    let read : c.pool-p.result ≡ nth_pool (drop head_size a.image.now) loop.j = c.pool-p.ensures ∙ ap (λ (s : List ℕ). nth_pool s loop.j) (part-rest a.image.now head_size) in
    (passed-pool a.image.now a.pools a.leases loop.j loop.next loop.counts loop.invariant.0 inside c.pool-p.result read f.few-pools c.pool_row-next.result c.pool_row-next.new.row c.pool_row-next.ensures, refl)

pub loop-k-init : goal.loop-k-init
loop-k-init c =
    let a = c.args in
    let f = known a.image.now a.pools a.leases c.requires in
    let loop = c.loop-j in (
      subst (λ (k : ℕ). Passed a.image.now a.pools a.leases k loop.next loop.counts) (sym loop.invariant.1) loop.invariant.0,
      λ (h : loop.bare_from < a.pools). elim c.loop-j-test.branch [
        | else-loop-j-test w ↦ absurd (omega (arith, h, loop.invariant.1, w.loop-j-test.false))
        | then-loop-j-test+then-leases-next w ↦ w.if-leases-next.true
      ],
    )

pub slice_bounds-pool-count-in-loop-k : goal.slice_bounds-pool-count-in-loop-k
slice_bounds-pool-count-in-loop-k c =
    let a = c.args in
    let f = known a.image.now a.pools a.leases c.requires in
    omega (arith, f.room)

pub slice_bounds-pool-start-in-loop-k : goal.slice_bounds-pool-start-in-loop-k
slice_bounds-pool-start-in-loop-k c =
    let a = c.args in
    let f = known a.image.now a.pools a.leases c.requires in
    omega (arith, f.room)

pub pool-p-requires-in-loop-k : goal.pool-p-requires-in-loop-k
pool-p-requires-in-loop-k c =
    let a = c.args in
    let f = known a.image.now a.pools a.leases c.requires in
    omega (arith, f.room, ap length (part-rest a.image.now head_size), length-drop head_size a.image.now)

pub offset_bounds-counts-k : goal.offset_bounds-counts-k
offset_bounds-counts-k c =
    let a = c.args in
    let f = known a.image.now a.pools a.leases c.requires in
    omega (arith, f.few-pools)

pub bounds-counts-k : goal.bounds-counts-k
bounds-counts-k c =
    let a = c.args in
    let f = known a.image.now a.pools a.leases c.requires in
    omega (arith, f.few-pools)

pub bare-requires : goal.bare-requires
bare-requires c =
    let a = c.args in
    let f = known a.image.now a.pools a.leases c.requires in
    let loop = c.loop-k in
    let inside : loop.k < a.pools = omega arith in
    let left : a.leases ≤ c.loop-j.next = loop.invariant.1 (omega arith) in
    let read : c.pool-p-in-loop-k.result ≡ nth_pool (drop head_size a.image.now) loop.k = c.pool-p-in-loop-k.ensures ∙ ap (λ (s : List ℕ). nth_pool s loop.k) (part-rest a.image.now head_size) in
    let ready = passed-ready a.image.now a.pools a.leases loop.k c.loop-j.next loop.counts loop.invariant.0 inside c.pool-p-in-loop-k.result read f.few-leases f.room f.short in (
      ready.from-shortest,
      ready.to-longest,
      passed-row a.image.now a.pools a.leases loop.k c.loop-j.next loop.counts loop.invariant.0 inside c.pool-p-in-loop-k.result read f.few-pools,
    )

pub loop-k-preserved : goal.loop-k-preserved
loop-k-preserved c =
    let a = c.args in
    let f = known a.image.now a.pools a.leases c.requires in
    let loop = c.loop-k in
    let inside : loop.k < a.pools = omega arith in
    let left : a.leases ≤ c.loop-j.next = loop.invariant.1 (omega arith) in
    let read : c.pool-p-in-loop-k.result ≡ nth_pool (drop head_size a.image.now) loop.k = c.pool-p-in-loop-k.ensures ∙ ap (λ (s : List ℕ). nth_pool s loop.k) (part-rest a.image.now head_size) in
    let ready = passed-ready a.image.now a.pools a.leases loop.k c.loop-j.next loop.counts loop.invariant.0 inside c.pool-p-in-loop-k.result read f.few-leases f.room f.short in
    (passed-bare a.image.now a.pools a.leases loop.k c.loop-j.next loop.counts loop.invariant.0 inside c.pool-p-in-loop-k.result read f.few-pools ready left c.bare.new.row c.bare.ensures, loop.invariant.1)

pub returns : goal.returns
returns c =
    let a = c.args in
    let loop = c.loop-k in
    passed-all a.image.now a.pools a.leases loop.k c.loop-j.next loop.counts loop.invariant.0 (omega arith)
