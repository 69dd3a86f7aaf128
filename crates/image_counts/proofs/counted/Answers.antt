-- `image_counts::counted` meets its contract.
use mathlib.Core.Path.{ap, ◌∙◌}
use Rattle.counts.specs.Counts.{same_counts?}
use Rattle.image_counts.proofs.counted.Goals as goal

pub returns : goal.returns
returns c t s = c.same.ensures ∙ ap (same_counts? _) (c.counts_in-fresh.ensures t s)
