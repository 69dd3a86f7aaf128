-- `counts::row_total` meets its contract: `sum` fits, since it sums so few numbers.
use mathlib.Core.Path.{◌∙◌}
use native.Mathlib.Omega.{arith}
use Rattle.std.proofs.Common.{rules, ◌^◌}
use borrow.Author.Tests.{tests}
use Rattle.std.proofs.lemmas.Iterator.{YieldsList-from_slice, YieldsList-from_map}
use Rattle.std.proofs.lemmas.Iterator.Consumers.{sum_by_from_yields_List}
use Rattle.std.proofs.lemmas.Iterator.Adapters.{fits_from_length, at_most_from_yields_List}
use Rattle.counts.specs.Counts.{counted_lengths}
use Rattle.counts.proofs.CompareLaws.{row-by, row-at-most}
use Rattle.counts.proofs.row_total.Goals as goal

pub sum-requires-clause-fits : goal.sum-requires-clause-fits
sum-requires-clause-fits c = fits_from_length _ _ counted_lengths (2 ^ 32) (at_most_from_yields_List (YieldsList-from_slice c.args.row.now cc) (omega arith)) c.map.ensures.closure (omega arith) (λ x r q k. search (rules, tests))

pub returns : goal.returns
returns c =
    let w = sum_by_from_yields_List (λ n. n) c.args.row.now c.map.result c.sum.result c.sum.ensures.ran (YieldsList-from_map _ (λ n. n) (YieldsList-from_slice c.args.row.now cc) c.map.ensures.closure (λ x r q k. search (rules, tests))) in
    (w ∙ row-by c.args.row.now, omega (arith, w, row-by c.args.row.now, row-at-most c.args.row.now c.fits-row))
