-- A CLIENT THAT ASKS TWICE: what document 02 says in M-101 of the requests that get a lease again, as claims about any server of ask calls, in the terms of
-- demand 3. (Of the rest speak `Demand3` and `Choice`.)
use Rattle.std.specs.Prelude.{ℕ, ◌≡◌, true, List, [], ◌∷◌, ◌++◌, map}
use mathlib.Core.List.{Permᴰ}
use Rattle.std.proofs.Math.Option.{Option, none, some}
use Rattle.lists.specs.Lists.{Pairwise, cat_maybes}
use Rattle.option.specs.Values.{Entry}
use Rattle.option_reply.specs.Reply.{entry_of}
use Rattle.table.specs.declared.{Lease.Lease, LeaseTable.LeaseTable}
use Rattle.table.specs.Table.{present}
use Rattle.ledger.specs.Ledger.{State, Call, ask_name, held_again}
use Rattle.ledger.specs.Demand3.{Server, well_formed, held_before, lease_for, granted}

-- "gets that line again .. (its d stays and shows in the reply)": each ask that is to get a lease again is granted the entry of that lease. That the table then
-- has it held by the client until now + 120 is what granted means.
abbrev pub GivenAgain : List (Option Lease) → List (Option Entry) → Type 0
GivenAgain [] gs = Unit {0}
GivenAgain (h ∷ hs) [] = ⊥
GivenAgain (none ∷ hs) (g ∷ gs) = GivenAgain hs gs
GivenAgain (some x ∷ hs) (g ∷ gs) = (g ≡ some (entry_of x)) × GivenAgain hs gs

-- What the rest is granted.
abbrev pub granted_to_rest : List (Option Lease) → List (Option Entry) → List Entry
granted_to_rest [] gs = []
granted_to_rest (h ∷ hs) [] = []
granted_to_rest (none ∷ hs) (g ∷ gs) = cat_maybes (g ∷ []) ++ granted_to_rest hs gs
granted_to_rest (some x ∷ hs) (g ∷ gs) = granted_to_rest hs gs

-- OF ANY SERVER on what holds a state, for each call that is well-formed there.
module _ {S : Type 0} (state_of : S → State) (server : Server S) where
  abbrev table_of : S → LeaseTable
  table_of s = (state_of s).table

  pub record AsksTwice : Type 0 where
    -- "a request for which the station, before the message, already held (not leased) a present line of the same length and h gets that line again"
    pub given : (s : S) (now : ℕ) (c : Call) → well_formed now (state_of s) c ≡ true → GivenAgain (held_before now (table_of s) c) (granted state_of server now s c)
    -- "each line at most once in a message"
    pub once : (s : S) (now : ℕ) (c : Call) → well_formed now (state_of s) c ≡ true → Pairwise (λ x y. x.network ≡ y.network → ⊥) (cat_maybes (held_before now (table_of s) c))
    -- "Only the rest take new ground": the leases present afterwards are those that were present, what is given again held until now + 120, and one more for
    -- each of the rest that is granted.
    pub left : (s : S) (now : ℕ) (c : Call) → well_formed now (state_of s) c ≡ true
        → Permᴰ (present now (table_of (server s now c).state).leases)
        (held_again now (cat_maybes (held_before now (table_of s) c)) (present now (table_of s).leases)
        ++ map (lease_for now c.client (ask_name c)) (granted_to_rest (held_before now (table_of s) c) (granted state_of server now s c)))
    -- "A re-given line needs no empty line, so 9 and 10 apply only to the rest."
    pub accepted : (s : S) (now : ℕ) (c : Call) → well_formed now (state_of s) c ≡ true → (cat_maybes (held_before now (table_of s) c) ≡ [] → ⊥) → (server s now c).answer.number ≡ 0
