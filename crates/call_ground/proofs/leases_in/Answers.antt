-- `leases_in` meets its contract: the second search is in what the first has left.
use native.Mathlib.Omega.{arith}
use Rattle.prefix.proofs.PrefixLaws.{size-positive}
use Rattle.call_ground.proofs.RangeLaws.{leases-in}
use Rattle.call_ground.proofs.leases_in.Goals as goal

pub overflow_sub-last : goal.overflow_sub-last
overflow_sub-last c = let a = c.args in omega (arith, c.end.ensures.value, size-positive a.p.length)

pub returns : goal.returns
returns c =
    let found = c.places_before-first in
    let a = c.args in
    let most = size-positive a.p.length in record {
      count_bound = omega (arith, found.ensures.upper_bound, c.place_after-count.ensures.upper_bound);
      equation = leases-in a.image.now a.from a.n a.p (record { first = found.result; count = c.place_after-count.result }) _ (omega (arith, c.end.ensures.value, most)) found.ensures.upper_bound c.place_after-count.ensures.upper_bound found.ensures.equation
          c.place_after-count.ensures.value;
    }
