-- RESUMING A LIST by its position never skips or repeats a lease that is still there, whatever was returned in between. (Document 01's last mistake:
-- "resuming a list by position in the table, which skips a line after a return".)
use Rattle.std.specs.Prelude.{ℕ, ◌≤◌, ◌≡◌, Bool, true, List, map, drop, take as up_to}
use Rattle.std.proofs.Math.Option.{none}
use Rattle.lists.specs.Lists.{All, filter}
use Rattle.option.specs.Values.{most_entries}
use Rattle.option.specs.Reading.{read_option}
use Rattle.option.specs.Contents.{suboptions, last_network, position}
use Rattle.option_reply.specs.Reply.{entry_of}
use Rattle.table.specs.declared.{Lease.Lease, LeaseTable.LeaseTable}
use Rattle.table.specs.Table.{present, sound}
use Rattle.ledger.specs.Ledger.{Call, call, Calls, listed_in}
use Rattle.ledger.specs.Histories.{Event, returned, afterwards}
use Rattle.ledger.specs.ReadBack.{read_in, page}

-- A history of returns.
abbrev pub AllReturns : List Event → Type 0
AllReturns es = All (λ e. (now : ℕ) × (c : Call) × (e ≡ returned now c)) es

-- The second option's position is the last network of the page that the first list of a table showed.
abbrev pub Continues : LeaseTable → ℕ → ℕ → List ℕ → List ℕ → Type 0
Continues t now client option resuming =
    position none (suboptions (read_option resuming)) ≡ last_network (position none (suboptions (read_option option))) (map entry_of (up_to most_entries (listed_in t now client option)))

-- OF ANY CALLS on what holds a state.
module _ {S : Type 0} (calls : Calls S) where
  -- The second list, of u, has exactly those leases after the first one's page, of s, that are still there, in order; and its reply shows them.
  pub record Resumed (s u : S) (now later client : ℕ) (option resuming : List ℕ) : Type 0 where
    pub keep : Lease → Bool
    pub there : present later (calls.state_of u).table.leases ≡ filter keep (present now (calls.state_of s).table.leases)
    pub rest : listed_in (calls.state_of u).table later client resuming ≡ filter keep (drop most_entries (listed_in (calls.state_of s).table now client option))
    pub told : (reply : List ℕ) → (calls.lists u later (call client resuming reply)).answer.number ≡ 0
        → read_in (calls.lists u later (call client resuming reply)) ≡ page (filter keep (drop most_entries (listed_in (calls.state_of s).table now client option)))

  abbrev pub Resumes : Type 0
  Resumes = (s : S) (now later client : ℕ) (option resuming : List ℕ) (es : List Event) → sound (calls.state_of s).table ≡ true → now ≤ later → AllReturns es
      → Continues (calls.state_of s).table now client option resuming → Resumed s (afterwards calls s es) now later client option resuming
