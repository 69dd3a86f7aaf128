use Rattle.call_ground.proofs.PoolLaws.{NoneBefore}
use Rattle.call_ground.proofs.pool_of.Given as goal

abbrev pub invariant-loop-k : goal.invariant-loop-k
invariant-loop-k l = NoneBefore l.image l.address l.k
