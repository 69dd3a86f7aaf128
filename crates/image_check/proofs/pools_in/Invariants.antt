use Rattle.image_check.proofs.PoolLaws.{PoolsRead}
use Rattle.image_check.proofs.pools_in.Given as goal

abbrev pub invariant-loop-n : goal.invariant-loop-n
invariant-loop-n l = PoolsRead l.s l.from l.n
