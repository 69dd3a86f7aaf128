-- Examples of option 118 (document 02, M-106), computed on the ledger: which ground an ask gets, that re-given leases and a take's entries lie on it, the rows
-- that it adds, and the bytes behind option 220 in the reply.
use Rattle.std.specs.Prelude.{ℕ, true, false, List, [], ◌∷◌, map, drop, replicate, take as up_to}
use Rattle.std.proofs.Math.Option.{Option, none, some}
use Rattle.option.specs.Values.{request, name}
use Rattle.option.specs.Writing.{option_bytes}
use Rattle.table.specs.declared.Lease.{Lease}
use Rattle.table.specs.Table.{no_pool, padded}
use Rattle.ledger.specs.Ledger.{State, filled, call_with, Result, ask, take}
use Rattle.ledger.specs.Demand3.{reply_entries}
use Rattle.ledger_examples.specs.Examples.{naming}
use Rattle.ledger_examples.specs.SampleLists.{held}

-- P7's roots, 10.0.0.0/24 and 10.0.8.0/26.
unfoldable pub two_pools : List Lease → State
two_pools xs = filled (record {
  pools = record { network = 0x0a000000; length = 24 } ∷ record { network = 0x0a000800; length = 26 } ∷ replicate 6 no_pool;
  leases = padded xs;
  term = 3600;
  default_length = 28;
  last = 1000;
})

-- Option 118 with the address 10.0.a.b.
abbrev pub selecting : ℕ → ℕ → List ℕ
selecting a b = 118 ∷ 4 ∷ 10 ∷ 0 ∷ a ∷ b ∷ []

-- What a call answers, number, bytes and count; the networks of its entries; and what follows the 13 bytes of a reply with one entry.
unfoldable pub shown : Result State → List (List ℕ)
shown r = (r.answer.number ∷ r.answer.bytes ∷ r.answer.count ∷ []) ∷ map (λ e. e.network) (reply_entries r) ∷ []

unfoldable pub behind : Result State → List ℕ
behind r = drop 13 (up_to r.answer.bytes r.reply)

-- Client 7 asks, and takes, at 1050, with a buffer of so many bytes.
unfoldable pub asks_with : ℕ → List Lease → Option (List ℕ) → List ℕ → Result State
asks_with room xs selection option = ask (two_pools xs) 1050 (call_with 7 option selection (replicate room 0))

abbrev pub asks : List Lease → Option (List ℕ) → ℕ → Result State
asks xs selection len = asks_with 263 xs selection (option_bytes (request false false len ∷ []))

unfoldable pub takes : List Lease → Option (List ℕ) → ℕ → ℕ → Result State
takes xs selection network len = take (two_pools xs) 1050 (call_with 7 (naming network len) selection (replicate 263 0))

-- Client 7 holds 10.0.8.0/27.
unfoldable pub mine : List Lease
mine = held 7 0x0a000800 27 false false 1100 ∷ []

-- "every block of that ask comes from the root that contains its address"
unfoldable pub area : List (List (List ℕ))
area =
    shown (asks [] none 27)
    ∷ shown (asks [] (some (selecting 0 5)) 27)
    ∷ shown (asks [] (some (selecting 8 63)) 27)
    -- the other root has ground for it
    ∷ shown (asks [] (some (selecting 8 0)) 24)
    -- "19, address in no root": one past the end, and an unused slot contains nothing
    ∷ shown (asks [] (some (selecting 8 64)) 27)
    ∷ shown (asks [] (some (118 ∷ 4 ∷ 0 ∷ 0 ∷ 0 ∷ 0 ∷ [])) 27)
    ∷ []

abbrev pub ground_expected : List (List (List ℕ))
ground_expected =
    ((0 ∷ 13 ∷ 1 ∷ []) ∷ (0x0a000800 ∷ []) ∷ [])
    ∷ ((0 ∷ 19 ∷ 1 ∷ []) ∷ (0x0a000000 ∷ []) ∷ [])
    ∷ ((0 ∷ 19 ∷ 1 ∷ []) ∷ (0x0a000800 ∷ []) ∷ [])
    ∷ ((10 ∷ 0 ∷ 0 ∷ []) ∷ [] ∷ [])
    ∷ ((19 ∷ 0 ∷ 0 ∷ []) ∷ [] ∷ [])
    ∷ ((19 ∷ 0 ∷ 0 ∷ []) ∷ [] ∷ [])
    ∷ []

-- "Re-given lines (M-101) must lie in that root as well"; "entries outside that root count as not found".
unfoldable pub on_it : List (List (List ℕ))
on_it =
    shown (asks mine none 27)
    ∷ shown (asks mine (some (selecting 8 5)) 27)
    ∷ shown (asks mine (some (selecting 0 5)) 27)
    ∷ shown (takes mine (some (selecting 8 5)) 0x0a000800 27)
    ∷ shown (takes mine (some (selecting 0 5)) 0x0a000800 27)
    ∷ shown (takes mine (some (selecting 9 5)) 0x0a000800 27)
    ∷ []

abbrev pub on_it_expected : List (List (List ℕ))
on_it_expected =
    ((0 ∷ 13 ∷ 1 ∷ []) ∷ (0x0a000800 ∷ []) ∷ [])
    ∷ ((0 ∷ 19 ∷ 1 ∷ []) ∷ (0x0a000800 ∷ []) ∷ [])
    ∷ ((0 ∷ 19 ∷ 1 ∷ []) ∷ (0x0a000000 ∷ []) ∷ [])
    ∷ ((0 ∷ 19 ∷ 1 ∷ []) ∷ (0x0a000800 ∷ []) ∷ [])
    ∷ ((11 ∷ 0 ∷ 0 ∷ []) ∷ [] ∷ [])
    ∷ ((19 ∷ 0 ∷ 0 ∷ []) ∷ [] ∷ [])
    ∷ []

-- The rows: 1 below 263 bytes, also where the option is bad; 6 for a bad one, before 7 of option 220; 19 after 8 and 17.
unfoldable pub rows : List ℕ
rows =
    let number : Result State → ℕ = λ r. r.answer.number in
    number (asks_with 262 [] (some (selecting 0 5)) (option_bytes (request false false 27 ∷ [])))
    ∷ number (asks_with 262 [] (some []) (option_bytes (request false false 27 ∷ [])))
    ∷ number (asks_with 257 [] none (option_bytes (request false false 27 ∷ [])))
    ∷ number (asks_with 263 [] (some (118 ∷ 3 ∷ 10 ∷ 0 ∷ 0 ∷ [])) (option_bytes (request false false 27 ∷ [])))
    ∷ number (asks_with 263 [] (some []) (0xdc ∷ 2 ∷ 0 ∷ 1 ∷ []))
    ∷ number (asks_with 263 [] (some (selecting 9 0)) (0xdc ∷ 2 ∷ 0 ∷ 1 ∷ []))
    ∷ number (asks_with 263 [] (some (selecting 9 0)) (option_bytes (request false true 27 ∷ [])))
    ∷ number (asks_with 263 [] (some (selecting 9 0)) (option_bytes (request false false 27 ∷ name (replicate 25 65) ∷ [])))
    ∷ number (asks_with 263 [] (some (selecting 9 0)) (option_bytes (request false false 27 ∷ name (replicate 24 65) ∷ [])))
    ∷ []

abbrev pub rows_expected : List ℕ
rows_expected = 1 ∷ 1 ∷ 0 ∷ 6 ∷ 6 ∷ 7 ∷ 8 ∷ 17 ∷ 19 ∷ []

-- "The option follows, unaltered, after option 220 in the reply".
unfoldable pub follows : List (List ℕ)
follows = behind (asks [] none 27) ∷ behind (asks [] (some (selecting 0 5)) 27) ∷ behind (takes mine (some (selecting 8 5)) 0x0a000800 27) ∷ []

abbrev pub follows_expected : List (List ℕ)
follows_expected = [] ∷ selecting 0 5 ∷ selecting 8 5 ∷ []
