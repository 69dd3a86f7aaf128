-- Histories of calls: what follows on an open or a load.
use Rattle.std.specs.Prelude.{ℕ, ◌≡◌, Bool, true, List, [], ◌∷◌, map}
use Rattle.lists.specs.Lists.{Pairwise}
use Rattle.prefix.specs.Prefixes.{Apart}
use Rattle.table.specs.declared.{Lease.Lease, LeaseTable.LeaseTable}
use Rattle.table.specs.Table.{prefix_of, present, sound}
use Rattle.ledger.specs.Ledger.{State, filled, Call, Calls, open_table}

-- A call with its arguments: the time, and what comes with it. Save reads the table and leaves it.
pub data Event : Type 0 where
  asked : ℕ → Call → Event
  taken : ℕ → Call → Event
  was_listed : ℕ → Call → Event
  returned : ℕ → Call → Event
  marked : ℕ → ℕ → ℕ → Bool → Event
  saved : Event

-- All leases of a sound table: each expires after the last time.
abbrev pub leases_of : LeaseTable → List Lease
leases_of t = present t.last t.leases

-- OF ANY CALLS on what holds a state: the ledger's own, or what the code is lent.
module _ {S : Type 0} (calls : Calls S) where
  -- What an event leaves, accepted or refused.
  abbrev pub next : S → Event → S
  next s (asked now c) = (calls.asks s now c).state
  next s (taken now c) = (calls.takes s now c).state
  next s (was_listed now c) = (calls.lists s now c).state
  next s (returned now c) = (calls.releases s now c).state
  next s (marked now network len d) = (calls.marks s now network len d).state
  next s saved = s

  unfoldable pub afterwards : S → List Event → S
  afterwards s [] = s
  afterwards s (e ∷ es) = afterwards (next s e) es

  -- What a history can reach from where it may begin.
  pub data Reachable (Begins : S → Type 0) : S → Type 0 where
    begun : (s : S) → Begins s → Reachable Begins s
    called : (s : S) (e : Event) → Reachable Begins s → Reachable Begins (next s e)

  -- "no two lines share an address": in all that a history can reach, and at any time.
  abbrev pub NeverShared : (S → Type 0) → Type 0
  NeverShared Begins = (s : S) (now : ℕ) → Reachable Begins s → Pairwise Apart (map prefix_of (present now (calls.state_of s).table.leases))

-- Where a history begins: an accepted open makes a table, a load gives any sound one; both fill the figures sheet.
pub data Begins : State → Type 0 where
  opened : (networks lengths : List ℕ) (term default_length start : ℕ) → (open_table networks lengths term default_length start).answer.number ≡ 0
      → Begins (open_table networks lengths term default_length start).state
  loaded : (t : LeaseTable) → sound t ≡ true → Begins (filled t)
