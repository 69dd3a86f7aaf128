-- ON ITS GROUND (document 02, M-106): "every block of that ask comes from the root that contains its address", re-given ones too; and a take confirms nothing
-- outside it.
use Rattle.std.specs.Prelude.{ℕ, ◌≤◌, ◌<◌, ◌≡◌, List}
use Rattle.std.proofs.Math.Option.{some}
use Rattle.lists.specs.Lists.{All, Any}
use Rattle.prefix.specs.Prefixes.{end, Inside}
use Rattle.option.specs.Reading.{four}
use Rattle.table.specs.declared.LeaseTable.{LeaseTable}
use Rattle.table.specs.Table.{pools_of}
use Rattle.ledger.specs.Ledger.{Call, Result, Calls, narrowed}
use Rattle.ledger.specs.Demand3.{entry_prefix, reply_entries}

-- Every entry of a reply lies inside a pool of the ground (a refusal has no entries).
abbrev pub Within : {S : Type 0} → LeaseTable → Call → Result S → Type 0
Within t c r = All (λ e. Any (Inside (entry_prefix e)) (pools_of (narrowed t c))) (reply_entries r)

-- And each pool of the ground of a call with the option contains its address.
abbrev pub Contains : LeaseTable → Call → Type 0
Contains t c = (s : List ℕ) → c.selection ≡ some s → All (λ p. (p.network ≤ four s 2) × (four s 2 < end p)) (pools_of (narrowed t c))

module _ {S : Type 0} (calls : Calls S) where
  pub record OnGround : Type 0 where
    pub contains : (s : S) (c : Call) → Contains (calls.state_of s).table c
    pub asks : (s : S) (now : ℕ) (c : Call) → Within (calls.state_of s).table c (calls.asks s now c)
    pub takes : (s : S) (now : ℕ) (c : Call) → Within (calls.state_of s).table c (calls.takes s now c)
