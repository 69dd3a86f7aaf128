-- What serving the requests of an ask begins with and what it answers, in columns, in the ledger's terms.
use Rattle.std.specs.Prelude.{ℕ, ◌+◌, ◌-◌, ◌≤◌, ◌≡◌, true, false, cond, List, [], ◌∷◌, map, eqb, length}
use Rattle.std.proofs.Math.Option.{Option, none, some}
use Rattle.lists.specs.Lists.{All}
use Rattle.prefix.specs.Prefixes.{longest}
use Rattle.gap_list.specs.declared.Ends.{Ends}
use Rattle.gap_list.specs.Gaps.{gaps_of}
use Rattle.gap_list.specs.Columns.{held_in}
use Rattle.names.specs.declared.Name.{Name}
use Rattle.table.specs.declared.{Lease.Lease, LeaseTable.LeaseTable}
use Rattle.table.specs.Table.{lease_slots, prefix_of, pools_of, present, sound}
use Rattle.option.specs.Contents.{Request}
use Rattle.ledger.specs.Ledger.{Call, narrowed, usable_leases, hold_time, offer, add}
use Rattle.ask_again.specs.Places.{others_in, flags_of}
use Rattle.ask_serve.specs.declared.Start.{Start}

-- A lease as it is granted to a client under a name and held until a time.
abbrev pub granted_lease : ℕ → ℕ → Name → ℕ → ℕ → ℕ → Lease
granted_lease client expires name network len flag =
    record { network = network; length = len; client = client; leased = false; h = eqb flag 1; d = false; expires = expires; name = name }

-- What a place of two columns has for a request with this h: a lease, or nothing where the length is 0.
abbrev pub offer_in : ℕ → ℕ → Name → ℕ → ℕ → ℕ → Option Lease
offer_in client expires name network len flag = cond (eqb len 0) none (some (granted_lease client expires name network len flag))

-- What the columns have, place for place with the requests, of which a third has h.
abbrev pub offers_in : ℕ → ℕ → Name → List ℕ → List ℕ → List ℕ → List (Option Lease)
offers_in client expires name ns ls [] = []
offers_in client expires name [] ls (f ∷ fs) = []
offers_in client expires name (n ∷ ns) [] (f ∷ fs) = []
offers_in client expires name (n ∷ ns) (l ∷ ls) (f ∷ fs) = offer_in client expires name n l f ∷ offers_in client expires name ns ls fs

-- How many of the first n places have a lease.
abbrev pub leases_in : List ℕ → ℕ → ℕ
leases_in lengths n = others_in 0 lengths n

-- What each request is offered, place for place, where `gs` has what each gets again: one that gets something is offered nothing, and the rest is served in
-- order.
unfoldable pub rest_offers : LeaseTable → ℕ → ℕ → Name → List Lease → List (Option Lease) → List Request → List (Option Lease)
rest_offers t now client name xs gs [] = []
rest_offers t now client name xs [] (r ∷ rs) = []
rest_offers t now client name xs (some x ∷ gs) (r ∷ rs) = none ∷ rest_offers t now client name xs gs rs
rest_offers t now client name xs (none ∷ gs) (r ∷ rs) = let o = offer t now client name xs r in o ∷ rest_offers t now client name (add o xs) gs rs

-- What serving asks for: a sound table, the leases present in it, the gaps of the ground of a call in a buffer, how many slots are empty, and requests of lengths that
-- an option can have. The gaps are those of the pools and the leases on that ground; slots are counted for the whole table.
pub record Serving (t : LeaseTable) (c : Call) (time client : ℕ) (xs : List Lease) (rs : List Request) (es : List Ends) (start : Start) (ask-lengths : List ℕ) : Type 0 where
  pub sound_table : sound t ≡ true
  pub present_leases : xs ≡ present time t.leases
  pub named : client ≡ 0 → ⊥
  pub gaps : held_in es start.gaps ≡ gaps_of (pools_of (narrowed t c)) (map prefix_of (usable_leases t c xs))
  pub empty : start.slots ≡ lease_slots - length xs
  pub by_default : start.default_length ≡ t.default_length
  pub asked_lengths : ask-lengths ≡ map (λ r. r.length) rs
  pub long : All (λ r. r.length ≤ longest) rs

-- What serving answers: the columns have what the rest is offered on the ground of t, place for place.
pub record Granted (t : LeaseTable) (time client : ℕ) (name : Name) (xs : List Lease) (gs : List (Option Lease)) (rs : List Request) (networks lengths : List ℕ) : Type 0 where
  pub held : offers_in client (time + hold_time) name networks lengths (flags_of rs) ≡ rest_offers t time client name xs gs rs
