-- CONSERVATION: "The addresses of all lines together equal those granted by accepted asks, less those returned, less those struck as ended, summed over
-- the history from open; after a load, from the loaded lines." (Document 02, M-101: "The conservation count speaks of lines newly made.")
use Rattle.std.specs.Prelude.{ℕ, ◌+◌, ◌≡◌, true, not, cond, List, [], ◌∷◌, leb, eqb}
use Rattle.lists.specs.Lists.{any?, filter}
use Rattle.prefix.specs.Prefixes.{size}
use Rattle.option.specs.Values.{Entry}
use Rattle.table.specs.declared.{Lease.Lease, LeaseTable.LeaseTable}
use Rattle.table.specs.Table.{present, sound}
use Rattle.option.specs.Contents.{entries_in}
use Rattle.ledger.specs.declared.Answer.{Answer}
use Rattle.ledger.specs.Ledger.{Calls, open_table, named_by?, ledger}
use Rattle.ledger.specs.Demand3.{reply_entries, entry_prefix, in_use, same?}
use Rattle.ledger.specs.Histories.{Event, asked, taken, was_listed, returned, marked, saved, next, afterwards, leases_of}

-- The number of addresses of leases, and of entries.
abbrev pub addresses_of : List Lease → ℕ
addresses_of [] = 0
addresses_of (x ∷ xs) = size x.length + addresses_of xs

abbrev pub addresses_in : List Entry → ℕ
addresses_in [] = 0
addresses_in (e ∷ es) = size e.length + addresses_in es

-- "lines newly made": an entry whose prefix was in use is none.
abbrev pub newly_made : ℕ → LeaseTable → List Entry → List Entry
newly_made now t es = filter (λ e. not (any? (same? (entry_prefix e)) (in_use now t))) es

abbrev pub if_accepted : Answer → ℕ → ℕ
if_accepted a n = cond (eqb a.number 0) n 0

-- The leases with an end at or before now.
abbrev pub ended_at : ℕ → LeaseTable → ℕ
ended_at now t = addresses_of (filter (λ x. leb x.expires now) (leases_of t))

-- OF ANY CALLS on what holds a state.
module _ {S : Type 0} (calls : Calls S) where
  abbrev table_of : S → LeaseTable
  table_of s = (calls.state_of s).table

  -- "those granted by accepted asks": the entries of its reply (a refusal has none) that tell of leases newly made.
  unfoldable pub granted_by : S → Event → ℕ
  granted_by s (asked now c) = addresses_in (newly_made now (table_of s) (reply_entries (calls.asks s now c)))
  granted_by s (taken now c) = 0
  granted_by s (was_listed now c) = 0
  granted_by s (returned now c) = 0
  granted_by s (marked now network len d) = 0
  granted_by s saved = 0

  -- "those returned" by an accepted return: the client's present leases that its entries name.
  unfoldable pub returned_by : S → Event → ℕ
  returned_by s (asked now c) = 0
  returned_by s (taken now c) = 0
  returned_by s (was_listed now c) = 0
  returned_by s (returned now c) =
      if_accepted (calls.releases s now c).answer (addresses_of (filter (named_by? c.client (entries_in c.option)) (present now (table_of s).leases)))
  returned_by s (marked now network len d) = 0
  returned_by s saved = 0

  -- "those struck as ended" by an accepted ask, take, return or mark.
  unfoldable pub ended_by : S → Event → ℕ
  ended_by s (asked now c) = if_accepted (calls.asks s now c).answer (ended_at now (table_of s))
  ended_by s (taken now c) = if_accepted (calls.takes s now c).answer (ended_at now (table_of s))
  ended_by s (was_listed now c) = 0
  ended_by s (returned now c) = if_accepted (calls.releases s now c).answer (ended_at now (table_of s))
  ended_by s (marked now network len d) = if_accepted (calls.marks s now network len d).answer (ended_at now (table_of s))
  ended_by s saved = 0

  -- "summed over the history"
  unfoldable pub summed : (S → Event → ℕ) → S → List Event → ℕ
  summed f s [] = 0
  summed f s (e ∷ es) = f s e + summed f (next calls s e) es

  -- "The addresses of all lines together equal those granted .. less those returned, less those struck as ended", after a history that began with `first`.
  abbrev pub Conserved : ℕ → S → List Event → Type 0
  Conserved first s es = addresses_of (leases_of (table_of (afterwards calls s es))) + summed returned_by s es + summed ended_by s es ≡ first + summed granted_by s es

  -- "after a load, from the loaded lines": a load gives any sound table.
  abbrev pub FromLoad : Type 0
  FromLoad = (s : S) (es : List Event) → sound (table_of s) ≡ true → Conserved (addresses_of (leases_of (table_of s))) s es

-- "from open": an accepted open makes a table with no lease.
abbrev pub FromOpen : Type 0
FromOpen = (networks lengths : List ℕ) (term default_length start : ℕ) (es : List Event) → (open_table networks lengths term default_length start).answer.number ≡ 0
    → Conserved ledger 0 (open_table networks lengths term default_length start).state es
