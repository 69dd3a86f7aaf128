-- "A list's answer depends only on its option, the time, the book's last time, the reply buffer's length, the station number and that station's lines,
-- over sound books."
use Rattle.std.specs.Prelude.{ℕ, ◌≡◌, true, not, List, [], ◌∷◌, length, take as up_to, eqb}
use Rattle.lists.specs.Lists.{and, filter}
use Rattle.table.specs.declared.{Lease.Lease, LeaseTable.LeaseTable}
use Rattle.table.specs.Table.{empty?, sound}
use Rattle.ledger.specs.declared.Answer.{Answer}
use Rattle.ledger.specs.Ledger.{call, Result, Calls}

-- This client's leases: empty slots are none.
abbrev pub leases_for : ℕ → LeaseTable → List Lease
leases_for client t = filter (λ x. and (not (empty? x) ∷ eqb x.client client ∷ [])) t.leases

-- What a list answers: its numbers, and the bytes that it writes.
abbrev pub answered : {S : Type 0} → Result S → Answer × List ℕ
answered r = (r.answer, up_to r.answer.bytes r.reply)

-- Of any calls on what holds a state.
abbrev pub DependsOnly : {S : Type 0} → Calls S → Type 0
DependsOnly {S} calls = (s u : S) (now client : ℕ) (option reply reply' : List ℕ) → sound (calls.state_of s).table ≡ true → sound (calls.state_of u).table ≡ true
    → (calls.state_of s).table.last ≡ (calls.state_of u).table.last → length reply ≡ length reply' → leases_for client (calls.state_of s).table ≡ leases_for client (calls.state_of u).table
    → answered (calls.lists s now (call client option reply)) ≡ answered (calls.lists u now (call client option reply'))
