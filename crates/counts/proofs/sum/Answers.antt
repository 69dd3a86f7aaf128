-- `counts::sum` meets its contract: the sum fits, since it sums so few numbers.
use mathlib.Core.Path.{◌∙◌}
use Prim.Native.Nat.{◌-◌}
use native.Mathlib.Omega.{arith}
use Rattle.std.proofs.Common.{rules, ◌^◌}
use borrow.Author.Tests.{tests}
use lib.ListN.{get_or}
use Rattle.std.proofs.lemmas.Iterator.{YieldsList-from_slice, YieldsList-from_map}
use Rattle.std.proofs.lemmas.Iterator.Consumers.{sum_by_from_yields_List}
use Rattle.std.proofs.lemmas.Iterator.Adapters.{fits_from_length, at_most_from_yields_List}
use Rattle.table.specs.Table.{pool_slots, shortest_pool}
use Rattle.counts.proofs.CompareLaws.{sum-outside, sum-within, summed-by}
use Rattle.counts.proofs.sum.Goals as goal

pub returns-then-not-contains : goal.returns-then-not-contains
returns-then-not-contains c = sum-outside c.args.c c.args.length (λ h g. search (rules, tests))

pub sum-requires-clause-fits : goal.sum-requires-clause-fits
sum-requires-clause-fits c = fits_from_length _ _ pool_slots (2 ^ 32) (at_most_from_yields_List (YieldsList-from_slice c.args.c cc) (omega arith)) c.map.ensures.closure (omega arith) (λ x r q k. search (rules, tests))

pub returns : goal.returns
returns c =
    let j = c.args.length - shortest_pool in
    let w = sum_by_from_yields_List (λ row. get_or row j 0) c.args.c c.map.result c.sum.result c.sum.ensures.ran (YieldsList-from_map _ (λ row. get_or row j 0) (YieldsList-from_slice c.args.c cc) c.map.ensures.closure (λ x r q k. search (rules, tests))) in
    sum-within c.args.c c.args.length (search (rules, tests)) (search (rules, tests)) c.sum.result (w ∙ summed-by j c.args.c)
