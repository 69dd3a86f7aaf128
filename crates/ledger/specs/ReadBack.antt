-- WHAT TAKE AND LIST WRITE, as the reader reads it.
use Rattle.std.specs.Prelude.{ℕ, ◌≡◌, true, false, List, [], ◌∷◌, map, length, drop, take as up_to, ltb}
use Rattle.option.specs.Values.{most_entries, Outcome, accepted, information}
use Rattle.option.specs.Reading.{read_option}
use Rattle.option_reply.specs.Reply.{entry_of}
use Rattle.table.specs.declared.Lease.{Lease}
use Rattle.table.specs.Table.{present}
use Rattle.ledger.specs.Ledger.{Call, Result, Calls, found, listed_in, usable_entries, returned}
use Rattle.ledger.specs.Demand3.{option220}

-- What the reader reads in a reply: in the bytes that the answer says were written, option 220 up to what its Len says; and what follows it.
abbrev pub written : {S : Type 0} → Result S → List ℕ
written r = up_to r.answer.bytes r.reply

abbrev pub read_in : {S : Type 0} → Result S → Outcome
read_in r = read_option (option220 (written r))

abbrev pub follows : {S : Type 0} → Result S → List ℕ
follows r = drop (length (option220 (written r))) (written r)

-- "The reply is one Information with those entries in order, flags and figures from the book: h, d, no figures, c and s 0."
abbrev pub confirmation : List Lease → Outcome
confirmation gs = accepted (information false false (map entry_of gs) ∷ [])

-- "at most 35, in one Information with c set, and s set exactly if more remain"
abbrev pub page : List Lease → Outcome
page gs = accepted (information true (ltb most_entries (length gs)) (map entry_of (up_to most_entries gs)) ∷ [])

-- OF ANY CALLS on what holds a state, where they are accepted.
module _ {S : Type 0} (calls : Calls S) where
  abbrev pub TakesReadBack : Type 0
  TakesReadBack = (s : S) (now : ℕ) (c : Call) → (calls.takes s now c).answer.number ≡ 0
      → read_in (calls.takes s now c) ≡ confirmation (found c.client (present now (calls.state_of s).table.leases) (usable_entries (calls.state_of s).table c))

  -- "The option follows, unaltered, after option 220 in the reply": it reads back as the one that came.
  pub record SelectionReturned : Type 0 where
    pub asks : (s : S) (now : ℕ) (c : Call) → (calls.asks s now c).answer.number ≡ 0 → follows (calls.asks s now c) ≡ returned c.selection
    pub takes : (s : S) (now : ℕ) (c : Call) → (calls.takes s now c).answer.number ≡ 0 → follows (calls.takes s now c) ≡ returned c.selection

  abbrev pub ListsReadBack : Type 0
  ListsReadBack = (s : S) (now : ℕ) (c : Call) → (calls.lists s now c).answer.number ≡ 0
      → read_in (calls.lists s now c) ≡ page (listed_in (calls.state_of s).table now c.client c.option)
