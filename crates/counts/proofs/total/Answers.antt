-- `counts::total` meets its contract: the sum fits, since it sums so few rows.
use mathlib.Core.Path.{◌∙◌}
use native.Mathlib.Omega.{arith}
use Rattle.std.proofs.Common.{rules, ◌^◌}
use borrow.Author.Tests.{tests}
use Rattle.std.proofs.lemmas.Iterator.{YieldsList-from_slice, YieldsList-from_map}
use Rattle.std.proofs.lemmas.Iterator.Consumers.{sum_by_from_yields_List}
use Rattle.std.proofs.lemmas.Iterator.Adapters.{fits_from_length, at_most_from_yields_List}
use Rattle.table.specs.Table.{pool_slots}
use Rattle.counts.specs.Counts.{row_total}
use Rattle.counts.proofs.CompareLaws.{total-by}
use Rattle.counts.proofs.total.Goals as goal

pub sum-requires-clause-fits : goal.sum-requires-clause-fits
sum-requires-clause-fits c = fits_from_length _ _ pool_slots (2 ^ 32) (at_most_from_yields_List (YieldsList-from_slice c.args.c cc) (omega arith)) c.map.ensures.closure (omega arith) (λ x r q k. search (rules, tests))

pub returns : goal.returns
returns c =
    sum_by_from_yields_List row_total c.args.c c.map.result c.sum.result c.sum.ensures.ran (YieldsList-from_map _ row_total (YieldsList-from_slice c.args.c cc) c.map.ensures.closure (λ x r q k. search (rules, tests)))
    ∙ total-by c.args.c
