-- NAMES, what document 02 says of them in M-105: the lines that an ask newly makes get the name of its message, and nothing else gives a line a name or
-- takes it away.
use Rattle.std.specs.Prelude.{ℕ, ◌≡◌, Bool, List}
use Rattle.lists.specs.Lists.{All, Any}
use Rattle.names.specs.declared.Name.{Name}
use Rattle.table.specs.declared.Lease.{Lease}
use Rattle.table.specs.Table.{prefix_of, present}
use Rattle.ledger.specs.Ledger.{State, Call, Calls, ask_name}
use Rattle.ledger.specs.Histories.{leases_of}

-- The leases of the state that are present, and all of it: an accepted call leaves no other.
abbrev before : ℕ → State → List Lease
before now s = present now s.table.leases

-- y is the lease of the same prefix as one of these.
abbrev pub Stood : List Lease → Lease → Type 0
Stood xs y = Any (λ x. prefix_of x ≡ prefix_of y) xs

-- Where a lease of this prefix was present, its name is the one that it had: "a re-given line keeps its own".
abbrev pub Keeps : List Lease → Lease → Type 0
Keeps xs y = All (λ x. prefix_of x ≡ prefix_of y → y.name ≡ x.name) xs

-- An accepted call at now, on s, that leaves u, and makes no lease.
abbrev pub NamesStay : ℕ → State → State → Type 0
NamesStay now s u = All (λ y. Stood (before now s) y × Keeps (before now s) y) (leases_of u.table)

-- One that makes leases: "the same for all lines newly made by that message". Of an ended lease at the same place nothing is left: "Names go with a struck
-- line".
abbrev pub NamesMade : Name → ℕ → State → State → Type 0
NamesMade name now s u = All (λ y. ((Stood (before now s) y → ⊥) → y.name ≡ name) × Keeps (before now s) y) (leases_of u.table)

-- OF ANY CALLS on what holds a state; a list leaves all as it was, as does a refusal.
pub record NamesKept {S : Type 0} (calls : Calls S) : Type 0 where
  pub asks : (s : S) (now : ℕ) (c : Call) → (calls.asks s now c).answer.number ≡ 0
      → NamesMade (ask_name c) now (calls.state_of s) (calls.state_of (calls.asks s now c).state)
  pub takes : (s : S) (now : ℕ) (c : Call) → (calls.takes s now c).answer.number ≡ 0 → NamesStay now (calls.state_of s) (calls.state_of (calls.takes s now c).state)
  pub releases : (s : S) (now : ℕ) (c : Call) → (calls.releases s now c).answer.number ≡ 0
      → NamesStay now (calls.state_of s) (calls.state_of (calls.releases s now c).state)
  pub marks : (s : S) (now network len : ℕ) (d : Bool) → (calls.marks s now network len d).answer.number ≡ 0
      → NamesStay now (calls.state_of s) (calls.state_of (calls.marks s now network len d).state)
