use Rattle.image_check.specs.InnerPass.{Left, Reached}
use Rattle.image_check.proofs.leases_in.Given as goal

abbrev pub invariant-loop-k : goal.invariant-loop-k
invariant-loop-k l = Left l.form l.s l.pass × Reached l.form l.head l.s l.n l.time l.k l.pass
