-- Further examples of document 01, computed on the ledger: 25 and 26 requests; a list of 35 and of 36 leases, and its second page; take, return and mark;
-- the order of the rows.
use Rattle.std.specs.Prelude.{ℕ, zero, suc, ◌+◌, ◌*◌, true, false, List, [], ◌∷◌, ◌++◌, get_or, replicate}
use Rattle.option.specs.Values.{Entry, request, information}
use Rattle.option.specs.Writing.{option_bytes}
use Rattle.names.specs.Names.{no_name}
use Rattle.table.specs.declared.Lease.{Lease}
use Rattle.ledger.specs.declared.Answer.{Answer}
use Rattle.ledger.specs.Ledger.{State, call, Result, ask, take, list, release, mark}
use Rattle.ledger_examples.specs.Examples.{new_table, buffer, entry}
use Rattle.ledger_examples.specs.SampleLists.{table_with, leases_from}

-- number, place, bytes, count
unfoldable pub numbers : Answer → List ℕ
numbers a = a.number ∷ a.place ∷ a.bytes ∷ a.count ∷ []

-- An answer, and these bytes of the reply.
unfoldable pub with_bytes : Result State → ℕ → ℕ → List ℕ
with_bytes r i j = numbers r.answer ++ (get_or r.reply i 0 ∷ get_or r.reply j 0 ∷ [])

unfoldable pub asking : ℕ → ℕ → List ℕ
asking n len = option_bytes (replicate n (request false false len))

-- n entries of length 30 in 10.0.1.0/24, from the one with this number on.
unfoldable pub entries_from : ℕ → ℕ → List Entry
entries_from from zero = []
entries_from from (suc n) = entry (0x0a000100 + from * 4) 30 [] ∷ entries_from (from + 1) n

unfoldable pub naming_from : ℕ → ℕ → List ℕ
naming_from from n = option_bytes (information false false (entries_from from n) ∷ [])

unfoldable pub start : State
start = new_table (0x0a000100 ∷ []) (24 ∷ [])

-- n leases of client 5.
unfoldable pub leased : ℕ → State
leased n = table_with 0x0a000100 24 (leases_from 0x0a000100 n)

-- A lease offered to client 5 at 1000, and tables with it: after two leases, and alone.
unfoldable pub offer5 : ℕ → Lease
offer5 network = record { network = network; length = 30; client = 5; leased = false; h = false; d = false; expires = 1120; name = no_name }

unfoldable pub mixed : State
mixed = table_with 0x0a000100 24 (leases_from 0x0a000100 2 ++ (offer5 0x0a000108 ∷ []))

unfoldable pub held : State
held = table_with 0x0a000100 24 (offer5 0x0a000100 ∷ [])

unfoldable pub listing : List ℕ
listing = option_bytes (request false true 0 ∷ [])

-- The same with the echo of a full page, whose last entry is the one with this number.
unfoldable pub resuming : ℕ → List ℕ
resuming last = option_bytes (request false true 0 ∷ information true true (entries_from last 1) ∷ [])

-- An entry with h and d set, as no lease here has them.
unfoldable pub flagged : List ℕ
flagged = option_bytes (information false false (record { network = 0x0a000100; length = 30; h = true; d = true; figures = [] } ∷ []) ∷ [])

-- Rows: what the ledger gives, and what document 01 says.

-- "25 requests in an ask are served, 26 get 8."
unfoldable pub many : List (List ℕ)
many =
    numbers (ask start 1000 (call 7 (asking 25 30) buffer)).answer
    ∷ numbers (ask start 1000 (call 7 (asking 26 30) buffer)).answer
    ∷ []

abbrev pub many_expected : List (List ℕ)
many_expected = (0 ∷ 0 ∷ 253 ∷ 25 ∷ []) ∷ (8 ∷ 0 ∷ 0 ∷ 0 ∷ []) ∷ []

-- "List of 35 lines: Len 249, s clear; of 36, s set." With the Len byte and the Information's flags (c 2, s 1).
unfoldable pub pages : List (List ℕ)
pages =
    with_bytes (list (leased 35) 1003 (call 5 listing buffer)) 1 5
    ∷ with_bytes (list (leased 36) 1003 (call 5 listing buffer)) 1 5
    ∷ []

abbrev pub pages_expected : List (List ℕ)
pages_expected = (0 ∷ 0 ∷ 251 ∷ 35 ∷ 249 ∷ 2 ∷ []) ∷ (0 ∷ 0 ∷ 251 ∷ 35 ∷ 249 ∷ 3 ∷ []) ∷ []

-- The second page, also after the first lease was returned: one entry, network 10.0.1.140; then nothing. With the flags and the network's last byte.
unfoldable pub second_pages : List (List ℕ)
second_pages =
    with_bytes (list (leased 36) 1003 (call 5 (resuming 34) buffer)) 5 9
    ∷ with_bytes (list (release (leased 36) 1003 (call 5 (naming_from 0 1) [])).state 1003 (call 5 (resuming 34) buffer)) 5 9
    ∷ with_bytes (list (leased 36) 1003 (call 5 (resuming 35) buffer)) 5 9
    ∷ []

abbrev pub second_pages_expected : List (List ℕ)
second_pages_expected = (0 ∷ 0 ∷ 13 ∷ 1 ∷ 2 ∷ 140 ∷ []) ∷ (0 ∷ 0 ∷ 13 ∷ 1 ∷ 2 ∷ 140 ∷ []) ∷ (11 ∷ 0 ∷ 0 ∷ 0 ∷ 0 ∷ 0 ∷ []) ∷ []

-- Return: those named that are there, offered ones too, each once; ended ones are not counted; another client finds none.
unfoldable pub returns : List (List ℕ)
returns =
    numbers (release mixed 1003 (call 5 (naming_from 1 2) [])).answer
    ∷ numbers (release mixed 1003 (call 5 (option_bytes (information false false (entries_from 1 1 ++ entries_from 1 1) ∷ [])) [])).answer
    ∷ numbers (release mixed 1120 (call 5 (naming_from 1 2) [])).answer
    ∷ numbers (release mixed 1003 (call 8 (naming_from 1 2) [])).answer
    ∷ []

abbrev pub returns_expected : List (List ℕ)
returns_expected = (0 ∷ 0 ∷ 0 ∷ 2 ∷ []) ∷ (0 ∷ 0 ∷ 0 ∷ 1 ∷ []) ∷ (0 ∷ 0 ∷ 0 ∷ 1 ∷ []) ∷ (11 ∷ 0 ∷ 0 ∷ 0 ∷ []) ∷ []

-- Take: the same entry twice is answered twice; flags are the table's, not the option's; leased until now + term, 1100 + 3600. With the entry's length
-- and flags bytes.
unfoldable pub takes : List (List ℕ)
takes =
    numbers (take held 1001 (call 5 (option_bytes (information false false (entries_from 0 1 ++ entries_from 0 1) ∷ [])) buffer)).answer
    ∷ with_bytes (take held 1001 (call 5 flagged buffer)) 10 11
    ∷ with_bytes (take (mark held 1001 0x0a000100 30 true).state 1001 (call 5 flagged buffer)) 10 11
    ∷ with_bytes (list (take held 1100 (call 5 flagged buffer)).state 4699 (call 5 listing buffer)) 10 11
    ∷ with_bytes (list (take held 1100 (call 5 flagged buffer)).state 4700 (call 5 listing buffer)) 10 11
    ∷ []

abbrev pub takes_expected : List (List ℕ)
takes_expected =
    (0 ∷ 0 ∷ 20 ∷ 2 ∷ []) ∷ (0 ∷ 0 ∷ 13 ∷ 1 ∷ 30 ∷ 0 ∷ []) ∷ (0 ∷ 0 ∷ 13 ∷ 1 ∷ 30 ∷ 1 ∷ []) ∷ (0 ∷ 0 ∷ 13 ∷ 1 ∷ 30 ∷ 0 ∷ []) ∷ (11 ∷ 0 ∷ 0 ∷ 0 ∷ 0 ∷ 0 ∷ []) ∷ []

-- Mark: no count; an ended lease, and another length, are not found.
unfoldable pub marks : List (List ℕ)
marks =
    numbers (mark held 1000 0x0a000100 30 true).answer
    ∷ numbers (mark held 1120 0x0a000100 30 true).answer
    ∷ numbers (mark held 1000 0x0a000100 29 true).answer
    ∷ []

abbrev pub marks_expected : List (List ℕ)
marks_expected = (0 ∷ 0 ∷ 0 ∷ 0 ∷ []) ∷ (11 ∷ 0 ∷ 0 ∷ 0 ∷ []) ∷ (11 ∷ 0 ∷ 0 ∷ 0 ∷ []) ∷ []

-- "The first that applies, in this row order, is given": each with every later one that can apply beside it.
unfoldable pub row_order : List (List ℕ)
row_order =
    numbers (ask start 999 (call 0 [] (replicate 256 0))).answer
    ∷ numbers (ask start 999 (call 0 [] buffer)).answer
    ∷ numbers (ask start 999 (call 7 [] buffer)).answer
    ∷ numbers (ask start 4292375296 (call 7 [] buffer)).answer
    ∷ numbers (ask start 1000 (call 7 [] buffer)).answer
    ∷ numbers (ask start 1000 (call 7 (0xdc ∷ 2 ∷ 0 ∷ 1 ∷ []) buffer)).answer
    ∷ numbers (ask start 1000 (call 7 listing buffer)).answer
    ∷ []

abbrev pub row_order_expected : List (List ℕ)
row_order_expected =
    (1 ∷ 0 ∷ 0 ∷ 0 ∷ []) ∷ (2 ∷ 0 ∷ 0 ∷ 0 ∷ []) ∷ (3 ∷ 0 ∷ 0 ∷ 0 ∷ []) ∷ (4 ∷ 0 ∷ 0 ∷ 0 ∷ []) ∷ (6 ∷ 0 ∷ 0 ∷ 0 ∷ []) ∷ (7 ∷ 3 ∷ 0 ∷ 0 ∷ []) ∷ (8 ∷ 0 ∷ 0 ∷ 0 ∷ []) ∷ []
