-- ONE PASS OVER THE LEASES, as the code gives them again: each lease, from the lowest on, goes to the first request that has none yet and that it is for.
-- Request by request that is `again` (`pass-gives` and `pass-skips` in PassLaws).
use Rattle.std.specs.Prelude.{ℕ, cond, List, [], ◌∷◌}
use Rattle.std.proofs.Math.Option.{Option, none, some}
use Rattle.table.specs.declared.{Lease.Lease, LeaseTable.LeaseTable}
use Rattle.option.specs.Contents.{Request}
use Rattle.ledger.specs.Ledger.{held_for?}

-- `gs` has what the requests have got so far.
unfoldable pub give : LeaseTable → ℕ → Lease → List Request → List (Option Lease) → List (Option Lease)
give t client x [] gs = gs
give t client x (r ∷ rs) [] = []
give t client x (r ∷ rs) (some y ∷ gs) = some y ∷ give t client x rs gs
give t client x (r ∷ rs) (none ∷ gs) = let later = give t client x rs gs in cond (held_for? t client r x) (some x ∷ gs) (none ∷ later)
