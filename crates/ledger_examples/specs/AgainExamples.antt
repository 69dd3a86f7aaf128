-- Examples of asking twice (document 02, M-101), computed on the ledger: which leases are given again, in which order and until when, what the rest gets, and
-- that 9 and 10 apply only to the rest.
use Rattle.std.specs.Prelude.{ℕ, zero, suc, ◌+◌, Bool, true, false, cond, List, [], ◌∷◌, ◌++◌, map, drop, take as up_to}
use Rattle.option.specs.Values.{SuboptionValue, request}
use Rattle.option.specs.Writing.{option_bytes}
use Rattle.names.specs.Names.{no_name}
use Rattle.table.specs.declared.Lease.{Lease}
use Rattle.ledger.specs.Ledger.{State, call, Result, ask}
use Rattle.ledger.specs.Demand3.{reply_entries}
use Rattle.ledger_examples.specs.Examples.{buffer}
use Rattle.ledger_examples.specs.SampleLists.{table_with, lease, leases_from, held}
use Rattle.ledger_examples.specs.FurtherExamples.{numbers, asking}

abbrev pub bit : Bool → ℕ
bit b = cond b 1 0

-- What an ask answers, number and count; what it grants, in order: the network, its length, h and d; and of n leases after it: the network, leased, d, the end.
unfoldable pub answered : Result State → List ℕ
answered r = r.answer.number ∷ r.answer.count ∷ []

unfoldable pub granted : Result State → List (List ℕ)
granted r = map (λ e. e.network ∷ e.length ∷ bit e.h ∷ bit e.d ∷ []) (reply_entries r)

unfoldable pub standing : List Lease → List (List ℕ)
standing xs = map (λ x. x.network ∷ bit x.leased ∷ bit x.d ∷ x.expires ∷ []) xs

unfoldable pub shown_after : ℕ → Result State → List (List ℕ)
shown_after n r = answered r ∷ (granted r ++ standing (up_to n r.state.table.leases))

-- A request of this length, without h and with it; and client 7 that asks, at 1050.
abbrev pub plain : ℕ → SuboptionValue
plain len = request false false len

abbrev pub with_h : ℕ → SuboptionValue
with_h len = request true false len

unfoldable pub asks : List Lease → List SuboptionValue → Result State
asks xs rs = ask (table_with 0x0a000100 24 xs) 1050 (call 7 (option_bytes rs) buffer)

-- What client 7 holds: leases of length 30 in 10.0.1.0/24, at this last byte of the network.
unfoldable pub mine : ℕ → ℕ → Lease
mine last expires = held 7 (0x0a000100 + last) 30 false false expires

unfoldable pub marked : ℕ → ℕ → Lease
marked last expires = held 7 (0x0a000100 + last) 30 false true expires

unfoldable pub mine_with_h : ℕ → ℕ → Lease
mine_with_h last expires = held 7 (0x0a000100 + last) 30 true false expires

abbrev pub at : ℕ → ℕ → ℕ → ℕ → List ℕ
at last len h d = (0x0a000100 + last) ∷ len ∷ h ∷ d ∷ []

abbrev pub stands : ℕ → ℕ → ℕ → ℕ → List ℕ
stands last leased d expires = (0x0a000100 + last) ∷ leased ∷ d ∷ expires ∷ []

-- "A box that loses our offer asks again": it gets the same lease, held until 120 seconds after it asked again, and there is no other.
unfoldable pub twice : List (List ℕ)
twice =
    let first = asks [] (plain 26 ∷ []) in
    granted first ++ shown_after 2 (ask first.state 1060 (call 7 (option_bytes (plain 26 ∷ [])) buffer))

abbrev pub twice_expected : List (List ℕ)
twice_expected = at 0 26 0 0 ∷ (0 ∷ 1 ∷ []) ∷ at 0 26 0 0 ∷ stands 0 0 0 1180 ∷ (0 ∷ 0 ∷ 0 ∷ 0 ∷ []) ∷ []

-- "lowest network first, each line at most once in a message": more held than asked for, and fewer; "Only the rest take new ground".
unfoldable pub many : List (List (List ℕ))
many =
    shown_after 3 (asks (mine 0 1100 ∷ mine 4 1100 ∷ mine 8 1100 ∷ []) (plain 30 ∷ plain 30 ∷ []))
    ∷ shown_after 3 (asks (mine 4 1100 ∷ []) (plain 30 ∷ plain 30 ∷ plain 30 ∷ []))
    -- none is held: what the message makes is not given again in it
    ∷ shown_after 2 (asks [] (plain 30 ∷ plain 30 ∷ []))
    -- the order of the requests, whichever of them get a lease again
    ∷ shown_after 3 (asks (mine 0 1100 ∷ []) (plain 29 ∷ plain 30 ∷ plain 28 ∷ []))
    ∷ []

abbrev pub many_expected : List (List (List ℕ))
many_expected =
    ((0 ∷ 2 ∷ []) ∷ at 0 30 0 0 ∷ at 4 30 0 0 ∷ stands 0 0 0 1170 ∷ stands 4 0 0 1170 ∷ stands 8 0 0 1100 ∷ [])
    ∷ ((0 ∷ 3 ∷ []) ∷ at 4 30 0 0 ∷ at 0 30 0 0 ∷ at 8 30 0 0 ∷ stands 0 0 0 1170 ∷ stands 4 0 0 1170 ∷ stands 8 0 0 1170 ∷ [])
    ∷ ((0 ∷ 2 ∷ []) ∷ at 0 30 0 0 ∷ at 4 30 0 0 ∷ stands 0 0 0 1170 ∷ stands 4 0 0 1170 ∷ [])
    ∷ ((0 ∷ 3 ∷ []) ∷ at 8 29 0 0 ∷ at 0 30 0 0 ∷ at 16 28 0 0 ∷ stands 0 0 0 1170 ∷ stands 8 0 0 1170 ∷ stands 16 0 0 1170 ∷ [])
    ∷ []

-- Which leases are given again: "held (not leased)", "present", this client's, "of the same length and h", "prefix 0 means the default length here too".
unfoldable pub which : List (List (List ℕ))
which =
    -- each h its own, and new ground where none of them is left
    shown_after 3 (asks (mine 0 1100 ∷ mine_with_h 4 1100 ∷ []) (with_h 30 ∷ plain 30 ∷ with_h 30 ∷ []))
    -- "its d stays and shows in the reply"
    ∷ shown_after 1 (asks (marked 0 1100 ∷ []) (plain 30 ∷ []))
    -- held until now + 120 even if its end was later
    ∷ shown_after 1 (asks (mine 0 5000 ∷ []) (plain 30 ∷ []))
    -- one that has ended is ordinary ground: d is 0
    ∷ shown_after 1 (asks (marked 0 1050 ∷ []) (plain 30 ∷ []))
    -- a leased one, another client's, another length
    ∷ shown_after 4 (asks (held 7 0x0a000100 29 false false 1100 ∷ record { network = 0x0a000108; length = 30; client = 7; leased = true; h = false; d = false; expires = 9000; name = no_name } ∷ held 8 0x0a00010c 30 false false 1100 ∷ []) (plain 30 ∷ []))
    -- the default length is 28
    ∷ shown_after 2 (asks (held 7 0x0a000110 28 false false 1100 ∷ []) (plain 0 ∷ plain 28 ∷ []))
    ∷ []

abbrev pub which_expected : List (List (List ℕ))
which_expected =
    ((0 ∷ 3 ∷ []) ∷ at 4 30 1 0 ∷ at 0 30 0 0 ∷ at 8 30 1 0 ∷ stands 0 0 0 1170 ∷ stands 4 0 0 1170 ∷ stands 8 0 0 1170 ∷ [])
    ∷ ((0 ∷ 1 ∷ []) ∷ at 0 30 0 1 ∷ stands 0 0 1 1170 ∷ [])
    ∷ ((0 ∷ 1 ∷ []) ∷ at 0 30 0 0 ∷ stands 0 0 0 1170 ∷ [])
    ∷ ((0 ∷ 1 ∷ []) ∷ at 0 30 0 0 ∷ stands 0 0 0 1170 ∷ [])
    ∷ ((0 ∷ 1 ∷ []) ∷ at 16 30 0 0 ∷ stands 0 0 0 1100 ∷ stands 8 1 0 9000 ∷ stands 12 0 0 1100 ∷ stands 16 0 0 1170 ∷ [])
    ∷ ((0 ∷ 2 ∷ []) ∷ at 16 28 0 0 ∷ at 0 28 0 0 ∷ stands 0 0 0 1170 ∷ stands 16 0 0 1170 ∷ [])
    ∷ []

-- "A re-given line needs no empty line, so 9 and 10 apply only to the rest."

-- 1,023 leases of client 5, and one that client 7 holds: no slot is empty.
unfoldable pub filled_up : State
filled_up = table_with 0x0a000000 19 (leases_from 0x0a000000 1023 ++ (held 7 0x0a000ffc 30 false false 1100 ∷ []))

unfoldable pub shown_full : List SuboptionValue → List (List ℕ)
shown_full rs = let r = ask filled_up 1050 (call 7 (option_bytes rs) buffer) in answered r ∷ granted r

unfoldable pub rest : List (List (List ℕ))
rest =
    -- a full table: only leases given again; the rest before and after one; only the rest
    shown_full (plain 30 ∷ [])
    ∷ shown_full (plain 29 ∷ plain 30 ∷ plain 30 ∷ [])
    ∷ shown_full (plain 29 ∷ [])
    -- no space: the rest before and after one that is given again; only the rest
    ∷ shown_after 2 (asks (held 7 0x0a000100 25 false false 1100 ∷ lease 0x0a000180 25 9000 ∷ []) (plain 24 ∷ plain 25 ∷ plain 25 ∷ []))
    ∷ shown_after 2 (asks (held 7 0x0a000100 25 false false 1100 ∷ lease 0x0a000180 25 9000 ∷ []) (plain 24 ∷ with_h 25 ∷ []))
    ∷ []

abbrev pub rest_expected : List (List (List ℕ))
rest_expected =
    ((0 ∷ 1 ∷ []) ∷ (0x0a000ffc ∷ 30 ∷ 0 ∷ 0 ∷ []) ∷ [])
    ∷ ((0 ∷ 1 ∷ []) ∷ (0x0a000ffc ∷ 30 ∷ 0 ∷ 0 ∷ []) ∷ [])
    ∷ ((9 ∷ 0 ∷ []) ∷ [])
    ∷ ((0 ∷ 1 ∷ []) ∷ at 0 25 0 0 ∷ stands 0 0 0 1170 ∷ stands 128 1 0 9000 ∷ [])
    ∷ ((10 ∷ 0 ∷ []) ∷ stands 0 0 0 1100 ∷ stands 128 1 0 9000 ∷ [])
    ∷ []

-- 26 leases held and 25 requests: the first 25 are given again, in 253 bytes, and the last keeps its end.
unfoldable pub held_from : ℕ → ℕ → List Lease
held_from last zero = []
held_from last (suc n) = mine last 1100 ∷ held_from (last + 4) n

unfoldable pub most : List (List ℕ)
most =
    let r = ask (table_with 0x0a000100 24 (held_from 0 26)) 1050 (call 7 (asking 25 30) buffer) in
    numbers r.answer ∷ standing (up_to 3 (drop 24 r.state.table.leases))

abbrev pub most_expected : List (List ℕ)
most_expected = (0 ∷ 0 ∷ 253 ∷ 25 ∷ []) ∷ stands 96 0 0 1170 ∷ stands 100 0 0 1100 ∷ (0 ∷ 0 ∷ 0 ∷ 0 ∷ []) ∷ []
