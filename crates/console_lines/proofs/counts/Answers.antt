-- `counts` meets its contract: after k turns the lines of the first k pools are written. The measure is how many pools are left.
use mathlib.Core.Path.{refl, ap}
use mathlib.Core.List.{[]}
use native.Mathlib.Omega.{arith}
use lib.ListN.{get_or}
use Rattle.table.specs.declared.Pool.{Pool}
use Rattle.console_lines.specs.CountLines.{pool_text}
use Rattle.console_lines.proofs.TextLaws.{then-wrote, wrote_as}
use Rattle.console_lines.proofs.CountLaws.{pools-none, pools-wrote, counts-written}
use Rattle.console_lines.proofs.counts.Goals as goal

pub loop-k-init : goal.loop-k-init
loop-k-init c = (omega arith, refl, pools-none c.args.pools.now c.args.counts c.args.out.now c.args.at)

pub loop-k-preserved : goal.loop-k-preserved
loop-k-preserved c =
    let end = c.pool-end in (
      omega (arith, end.ensures.upper_bound),
      omega (arith, end.auto),
      pools-wrote c.loop-k.k c.args.pools.now c.args.counts _ _ _ _ _ _ (omega arith) c.loop-k.invariant.2 (wrote_as _ _ _ _ _ _ (ap (λ (p : Pool). pool_text p (get_or c.args.counts c.loop-k.k [])) c.pool_at.ensures) end.ensures.wrote),
    )

pub returns : goal.returns
returns c = let end = c.ok in record { upper_bound = omega (arith, end.ensures.place); wrote = wrote_as _ _ _ _ _ _ (counts-written c.args.pools.now c.args.counts c.loop-k.k (omega arith) (omega arith)) (then-wrote _ _ _ _ _ _ _ _ c.loop-k.invariant.2 end.ensures) }
