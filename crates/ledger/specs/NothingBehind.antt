-- A STRUCK LEASE LEAVES NOTHING BEHIND: states that differ only in leases that ended, and in their rows, are served alike, and freed slots are zero.
use Rattle.std.specs.Prelude.{ℕ, ◌≡◌, Bool, true}
use Rattle.table.specs.Table.{padded, present, sound}
use Rattle.figures.specs.Figures.{matches?, kept_rows}
use Rattle.ledger.specs.Ledger.{State, Call, Result, Calls}
use Rattle.ledger.specs.Demand3.{Accepts}

-- Sound tables with the same pools, term, default length and present leases, at a time that both accept; and sheets that match, with the same rows of
-- these leases.
pub record Alike (now : ℕ) (s u : State) : Type 0 where
  pub sound₁ : sound s.table ≡ true
  pub sound₂ : sound u.table ≡ true
  pub accepts₁ : Accepts s.table now
  pub accepts₂ : Accepts u.table now
  pub pools : s.table.pools ≡ u.table.pools
  pub term : s.table.term ≡ u.table.term
  pub default : s.table.default_length ≡ u.table.default_length
  pub leases : present now s.table.leases ≡ present now u.table.leases
  pub matched₁ : matches? s.table.leases s.rows ≡ true
  pub matched₂ : matches? u.table.leases u.rows ≡ true
  pub rows : kept_rows now s.table.leases s.rows ≡ kept_rows now u.table.leases u.rows

-- The same answer and reply, and the same state left where the call is accepted.
pub record Same {S : Type 0} (state_of : S → State) (r q : Result S) : Type 0 where
  pub answer : r.answer ≡ q.answer
  pub reply : r.reply ≡ q.reply
  pub left : r.answer.number ≡ 0 → state_of r.state ≡ state_of q.state

-- After an accepted call: the leases that are present now, and zeros; and their rows, "an empty line's row is network and length 0, untold".
abbrev pub Cleared : ℕ → State → Type 0
Cleared now s = (s.table.last ≡ now) × (s.table.leases ≡ padded (present now s.table.leases)) × (matches? s.table.leases s.rows ≡ true)

-- OF ANY CALLS on what holds a state.
module _ {S : Type 0} (calls : Calls S) where
  -- A list leaves each its own.
  pub record ServesAlike (now : ℕ) (s u : S) : Type 0 where
    pub asks : (c : Call) → Same calls.state_of (calls.asks s now c) (calls.asks u now c)
    pub takes : (c : Call) → Same calls.state_of (calls.takes s now c) (calls.takes u now c)
    pub lists : (c : Call) → ((calls.lists s now c).answer ≡ (calls.lists u now c).answer) × ((calls.lists s now c).reply ≡ (calls.lists u now c).reply)
    pub releases : (c : Call) → Same calls.state_of (calls.releases s now c) (calls.releases u now c)
    pub marks : (network len : ℕ) (d : Bool) → Same calls.state_of (calls.marks s now network len d) (calls.marks u now network len d)

  abbrev pub EndedForgotten : Type 0
  EndedForgotten = (now : ℕ) (s u : S) → Alike now (calls.state_of s) (calls.state_of u) → ServesAlike now s u

  -- "An accepted ask, take, return or mark strikes them and sets the last time to now."
  pub record Clears (s : S) (now : ℕ) : Type 0 where
    pub asks : (c : Call) → (calls.asks s now c).answer.number ≡ 0 → Cleared now (calls.state_of (calls.asks s now c).state)
    pub takes : (c : Call) → (calls.takes s now c).answer.number ≡ 0 → Cleared now (calls.state_of (calls.takes s now c).state)
    pub releases : (c : Call) → (calls.releases s now c).answer.number ≡ 0 → Cleared now (calls.state_of (calls.releases s now c).state)
    pub marks : (network len : ℕ) (d : Bool) → (calls.marks s now network len d).answer.number ≡ 0 → Cleared now (calls.state_of (calls.marks s now network len d).state)
