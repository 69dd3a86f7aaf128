-- The choice: "An ask of length p takes, among whole free blocks of length at most p, the smallest, the lowest network among equals, and of that the
-- lowest part of length p", of each ask of a call that is granted, on the table that it meets. "Only the rest take new ground."
use Rattle.std.specs.Prelude.{List}
use Rattle.std.proofs.Math.Option.{Option}
use Rattle.lists.specs.Properties.{OfSome}
use Rattle.prefix.specs.declared.Prefix.{Prefix}
use Rattle.free_space.specs.Space.{Takes}
use Rattle.option.specs.Values.{Entry}
use Rattle.table.specs.declared.{Lease.Lease, LeaseTable.LeaseTable}
use Rattle.table.specs.Table.{pools_of}
use Rattle.option.specs.Contents.{Request}
use Rattle.ledger.specs.Ledger.{asked_length}
use Rattle.ledger.specs.Demand3.{entry_prefix, OfTheRest}

-- For each of the rest, on the prefixes in use that it meets, with what it was granted.
abbrev pub Chosen : LeaseTable → List Prefix → Request → Option Entry → Type 0
Chosen t used r g = OfSome (λ e. Takes (pools_of t) used (asked_length t r) (entry_prefix e)) g

abbrev pub ChosenRightly : LeaseTable → List Prefix → List Request → List (Option Lease) → List (Option Entry) → Type 0
ChosenRightly t used rs hs gs = OfTheRest (Chosen t) used rs hs gs
