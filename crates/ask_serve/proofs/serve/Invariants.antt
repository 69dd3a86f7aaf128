use Prim.Native.Nat.{ℕ, ◌+◌, ◌≤◌}
use mathlib.Core.Path.{◌≡◌}
use mathlib.Core.List.{List}
use lib.ListN.{length}
use Rattle.names.specs.declared.Name.{Name}
use Rattle.table.specs.declared.Lease.{Lease}
use Rattle.table.specs.declared.LeaseTable.{LeaseTable}
use Rattle.option.specs.Contents.{Request}
use Rattle.ledger.specs.Ledger.{Call}
use Rattle.ask_serve.specs.declared.Progress.{Progress}
use Rattle.ask_serve.specs.declared.Start.{Start}
use Rattle.ask_serve.specs.Granting.{leases_in, Serving}
use Rattle.ask_serve.specs.InnerServing.{columns}
use Rattle.ask_serve.proofs.ServeLaws.{After}
use Rattle.ask_serve.proofs.serve.Given as goal

-- What the loop begins with, of its variables.
abbrev pub start-of : ℕ → Progress → Start
start-of default-length at₀ = record { default_length = default-length; gaps = at₀.gaps; slots = at₀.left }

abbrev pub invariant-loop-j : goal.invariant-loop-j
invariant-loop-j l = (l.at.granted ≤ l.j) × (l.at.gaps + l.at.left ≤ l.initial.at.gaps + l.initial.at.left)
    × (length l.gaps ≡ length l.initial.gaps) × (length l.networks ≡ length l.initial.networks) × (length l.lengths ≡ length l.initial.lengths)
    × (l.at.granted + l.at.left ≤ l.initial.at.left) × (l.at.granted ≡ leases_in l.lengths l.j)
    × ((t : LeaseTable) (call : Call) (time client : ℕ) (name : Name) (xs us : List Lease) (rs : List Request)
    → Serving t call time client xs rs l.initial.gaps (start-of l.default_length l.initial.at) l.ask_lengths
    → After t call time client name xs us l.places rs l.j (columns l.gaps l.networks l.lengths) l.at)
