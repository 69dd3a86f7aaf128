-- `ask_gaps::in_pool` meets its contract. The loop's invariant: the gaps that are pushed and those that are ahead are the pool's, and each lease so far
-- made at most one.
use Prim.Native.Nat.{ℕ}
use mathlib.Core.Path.{◌≡◌, refl, sym, ap, subst, ◌∙◌}
use native.Mathlib.Omega.{arith}
use lib.ListN.{length}
use Rattle.prefix.specs.Prefixes.{end}
use Rattle.table.specs.Table.{prefix_of}
use Rattle.ask_gaps.specs.InnerPass.{Went}
use Rattle.ask_gaps.proofs.PassLaws.{walked_none, walked-expired, walked-lease, walked-past, walked_all}
use Rattle.ask_gaps.proofs.in_pool.Goals as goal
use Rattle.ask_gaps.proofs.in_pool.Goals.{then-time-x+else-stop-first, else-time-x}

pub loop-i-init : goal.loop-i-init
loop-i-init c =
    let a = c.args in
    (omega arith, refl, rw c.from-cursor.ensures (walked_none a.image.now a.span.from a.span.leases a.time a.pool.network c.end-stop.result a.at a.gaps.now))

pub returns-then-stop-first : goal.returns-then-stop-first
returns-then-stop-first c =
    let l = c.loop-i in
    let a = c.args in
    subst (λ (stop : ℕ). Went a.image.now a.span.from a.span.leases a.time a.pool.network stop a.at a.gaps.now (record { leases = l.i; gaps = c.push.result }) c.push.new.gaps) c.end-stop.ensures.value
    (walked-past a.image.now a.span.from a.span.leases a.time a.pool.network c.end-stop.result a.at a.gaps.now l.cursor l.n l.i l.gaps l.invariant.2
    (omega arith) c.lease_at-x.result c.lease_at-x.ensures c.if-time-x.true c.push.result c.push.new.gaps
    l.auto.i l.invariant.0 (omega (arith, c.if-stop-first.true, c.from-first.ensures)) c.push.ensures)

pub loop-i-preserved : goal.loop-i-preserved
loop-i-preserved c =
    let j = c.if-time-x in
    let l = c.loop-i in
    let a = c.args in
    let x = c.lease_at-x.result in
    elim j.branch [
      | then-time-x+else-stop-first w ↦
          let cursor-is : j.cursor ≡ end (prefix_of x) = omega (arith, w.from-first.ensures) in (
            omega (arith, w.push-n.ensures.few, w.n-is),
            ap length w.gaps-is ∙ w.push-n.auto.gaps ∙ l.invariant.1,
            rw (cursor-is, w.n-is, w.gaps-is)
                (walked-lease a.image.now a.span.from a.span.leases a.time a.pool.network c.end-stop.result a.at a.gaps.now l.cursor l.n l.i l.gaps l.invariant.2
                (omega arith) x c.lease_at-x.ensures w.if-time-x.true w.push-n.result w.push-n.new.gaps (omega (arith, w.from-first.ensures, w.if-stop-first.false)) (rw (sym w.from-first.ensures) w.push-n.ensures)),
          )
      | else-time-x w ↦ (
        omega (arith, w.n-is),
        ap length w.gaps-is ∙ l.invariant.1,
        rw (w.cursor-is, w.n-is, w.gaps-is)
            (walked-expired a.image.now a.span.from a.span.leases a.time a.pool.network c.end-stop.result a.at a.gaps.now l.cursor l.n l.i l.gaps l.invariant.2
            (omega arith) x c.lease_at-x.ensures w.if-time-x.false),
      )
    ]

pub returns : goal.returns
returns c =
    let l = c.loop-i in
    let a = c.args in
    subst (λ (stop : ℕ). Went a.image.now a.span.from a.span.leases a.time a.pool.network stop a.at a.gaps.now (record { leases = a.span.leases; gaps = c.push-2.result }) c.push-2.new.gaps) c.end-stop.ensures.value
    (walked_all a.image.now a.span.from a.span.leases a.time a.pool.network c.end-stop.result a.at a.gaps.now l.cursor l.n l.i l.gaps l.invariant.2
    (omega arith) (omega arith) l.auto.i l.invariant.0 c.push-2.result c.push-2.new.gaps c.push-2.ensures)
