-- `sheet_text::lease` meets its contract.
use mathlib.Core.Path.{ap}
use Rattle.table.specs.declared.Lease.{Lease}
use Rattle.sheet_text.specs.InnerScan.{lease_shown}
use Rattle.sheet_text.specs.Sheet.{used_by}
use Rattle.sheet_text.proofs.lease.Goals as goal

pub returns : goal.returns
unfolding lease_shown
returns c =
    let lease-at = c.lease_at-x in
    ap (λ (x : Lease). used_by x) lease-at.ensures
