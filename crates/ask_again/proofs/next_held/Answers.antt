-- `next_held` meets its contract: the asker holds none of the leases from the i-th up to the k-th.
use mathlib.Core.Path.{sym, ◌∙◌}
use native.Mathlib.Omega.{arith}
use borrow.Author.Count.{below_more}
use Rattle.ask_again.proofs.HeldLaws.{four-past}
use Rattle.ask_again.proofs.next_held.Goals as goal

pub loop-k-init : goal.loop-k-init
loop-k-init c = (omega arith, record { on = omega arith; past = λ m h l. absurd (omega arith) })

pub loop-k-preserved : goal.loop-k-preserved
loop-k-preserved c =
    let a = c.args in
    let l = c.loop-k in
    (omega arith, record { on = omega (arith, l.invariant.1.on); past = four-past a.image.now a.from a.asker.client a.asker.time a.i l.k l.invariant.1.past (c.others_at.ensures c.if-not-others_at.false) })

pub loop-m-preserved : goal.loop-m-preserved
loop-m-preserved c =
    let l = c.loop-m in
    (omega arith, record { on = omega (arith, l.invariant.1.on); past = below_more _ _ l.invariant.1.past (λ h. sym c.held_at.ensures ∙ c.if-held_at.false) })
