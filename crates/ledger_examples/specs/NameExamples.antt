-- Examples of names (document 02, M-105), computed on the ledger: which name a lease gets, what keeps it, and where row 17 stands.
use Rattle.std.specs.Prelude.{ℕ, ◌+◌, true, false, List, [], ◌∷◌, ◌++◌, map, replicate, take as up_to}
use Rattle.option.specs.Values.{SuboptionValue, request, name}
use Rattle.option.specs.Writing.{option_bytes}
use Rattle.names.specs.Names.{name_of, name_text}
use Rattle.table.specs.declared.Lease.{Lease}
use Rattle.ledger.specs.Ledger.{State, call, ask, take, list, release, mark}
use Rattle.ledger_examples.specs.Examples.{buffer, naming}
use Rattle.ledger_examples.specs.SampleLists.{table_with, lease}
use Rattle.ledger_examples.specs.FurtherExamples.{numbers}
use Rattle.ledger_examples.specs.AgainExamples.{plain, with_h, filled_up}

-- "west hall", "east", and so many letters x.
abbrev pub west : List ℕ
west = 0x77 ∷ 0x65 ∷ 0x73 ∷ 0x74 ∷ 0x20 ∷ 0x68 ∷ 0x61 ∷ 0x6c ∷ 0x6c ∷ []

abbrev pub east : List ℕ
east = 0x65 ∷ 0x61 ∷ 0x73 ∷ 0x74 ∷ []

abbrev pub long : ℕ → List ℕ
long n = replicate n 0x78

-- The first two leases of a state, network and name; and a lease in 10.0.1.0/24, at this last byte of the network.
unfoldable pub shown_names : State → List (List ℕ)
shown_names s = map (λ x. x.network ∷ name_text x.name) (up_to 2 s.table.leases)

abbrev pub line : ℕ → List ℕ → List ℕ
line last octets = (0x0a000100 + last) ∷ octets

abbrev pub no_line : List ℕ
no_line = 0 ∷ []

-- An ask of a client at a time, with these suboptions.
unfoldable pub asks_by : State → ℕ → ℕ → List SuboptionValue → State
asks_by s now client subs = (ask s now (call client (option_bytes subs) buffer)).state

unfoldable pub start : State
start = table_with 0x0a000100 24 []

-- "from the first Name suboption of the ask that made it, the same for all lines newly made by that message"
unfoldable pub given : List (List (List ℕ))
given =
    -- one Name, wherever it stands
    shown_names (asks_by start 1050 7 (plain 26 ∷ name west ∷ plain 26 ∷ []))
    ∷ shown_names (asks_by start 1050 7 (name west ∷ plain 26 ∷ plain 26 ∷ []))
    -- two Names, the second too long to be one
    ∷ shown_names (asks_by start 1050 7 (plain 26 ∷ name east ∷ name west ∷ []))
    ∷ shown_names (asks_by start 1050 7 (name west ∷ plain 26 ∷ name (long 200) ∷ []))
    -- none
    ∷ shown_names (asks_by start 1050 7 (plain 26 ∷ []))
    -- 24 octets; a zero inside
    ∷ shown_names (asks_by start 1050 7 (plain 26 ∷ name (long 24) ∷ []))
    ∷ shown_names (asks_by start 1050 7 (plain 26 ∷ name (0 ∷ 0x78 ∷ 0 ∷ 0x78 ∷ []) ∷ []))
    ∷ []

abbrev pub given_expected : List (List (List ℕ))
given_expected =
    (line 0 west ∷ line 64 west ∷ [])
    ∷ (line 0 west ∷ line 64 west ∷ [])
    ∷ (line 0 east ∷ no_line ∷ [])
    ∷ (line 0 west ∷ no_line ∷ [])
    ∷ (line 0 [] ∷ no_line ∷ [])
    ∷ (line 0 (long 24) ∷ no_line ∷ [])
    ∷ (line 0 (0 ∷ 0x78 ∷ 0 ∷ 0x78 ∷ []) ∷ no_line ∷ [])
    ∷ []

-- 10.0.1.0/26 named "west hall", that client 7 holds until this time.
unfoldable pub west_until : ℕ → Lease
west_until expires = record { network = 0x0a000100; length = 26; client = 7; leased = false; h = false; d = false; expires = expires; name = name_of west }

unfoldable pub holding : State
holding = table_with 0x0a000100 24 (west_until 1100 ∷ [])

-- "a re-given line keeps its own. Names go with a struck line."
unfoldable pub kept : List (List (List ℕ))
kept =
    -- given again under another Name, and what is new beside it; under none
    shown_names (asks_by holding 1050 7 (plain 26 ∷ name east ∷ plain 26 ∷ []))
    ∷ shown_names (asks_by holding 1050 7 (plain 26 ∷ []))
    -- another client's ask
    ∷ shown_names (asks_by holding 1050 8 (plain 26 ∷ name east ∷ []))
    -- a take, a mark, and the return of a lease before it
    ∷ shown_names (take holding 1050 (call 7 (naming 0x0a000100 26) buffer)).state
    ∷ shown_names (mark holding 1050 0x0a000100 26 true).state
    ∷ shown_names (release (table_with 0x0a000000 23 (lease 0x0a000000 26 9000 ∷ west_until 1100 ∷ [])) 1050 (call 5 (naming 0x0a000000 26) [])).state
    -- once it has ended, or is returned, its ground is granted without a name, and under another
    ∷ shown_names (asks_by holding 1100 8 (plain 26 ∷ []))
    ∷ shown_names (asks_by holding 1100 7 (plain 26 ∷ name east ∷ []))
    ∷ shown_names (asks_by (release holding 1050 (call 7 (naming 0x0a000100 26) [])).state 1060 8 (plain 26 ∷ []))
    ∷ []

abbrev pub kept_expected : List (List (List ℕ))
kept_expected =
    (line 0 west ∷ line 64 east ∷ [])
    ∷ (line 0 west ∷ no_line ∷ [])
    ∷ (line 0 west ∷ line 64 east ∷ [])
    ∷ (line 0 west ∷ no_line ∷ [])
    ∷ (line 0 west ∷ no_line ∷ [])
    ∷ (line 0 west ∷ no_line ∷ [])
    ∷ (line 0 [] ∷ no_line ∷ [])
    ∷ (line 0 east ∷ no_line ∷ [])
    ∷ (line 0 [] ∷ no_line ∷ [])
    ∷ []

-- "17, an ask's first name above 24 octets, after 8": also where all would be given again, and of no other call.
unfoldable pub too_long : List (List ℕ)
too_long =
    numbers (ask start 1050 (call 7 (option_bytes (plain 26 ∷ name (long 25) ∷ [])) buffer)).answer
    ∷ numbers (ask start 1050 (call 7 (option_bytes (name (long 25) ∷ plain 26 ∷ name west ∷ [])) buffer)).answer
    ∷ numbers (ask holding 1050 (call 7 (option_bytes (plain 26 ∷ name (long 25) ∷ [])) buffer)).answer
    -- before 9 and before 10
    ∷ numbers (ask filled_up 1050 (call 7 (option_bytes (with_h 30 ∷ name (long 25) ∷ [])) buffer)).answer
    ∷ numbers (ask start 1050 (call 7 (option_bytes (plain 23 ∷ name (long 25) ∷ [])) buffer)).answer
    -- after 8: 26 requests, and none
    ∷ numbers (ask start 1050 (call 7 (option_bytes (replicate 26 (plain 30) ++ (name (long 25) ∷ []))) buffer)).answer
    ∷ numbers (ask start 1050 (call 7 (option_bytes (name (long 25) ∷ [])) buffer)).answer
    -- a list
    ∷ numbers (list (table_with 0x0a000100 24 (lease 0x0a000100 26 9000 ∷ [])) 1050 (call 5 (option_bytes (request false true 0 ∷ name (long 25) ∷ [])) buffer)).answer
    ∷ []

abbrev pub too_long_expected : List (List ℕ)
too_long_expected =
    (17 ∷ 0 ∷ 0 ∷ 0 ∷ [])
    ∷ (17 ∷ 0 ∷ 0 ∷ 0 ∷ [])
    ∷ (17 ∷ 0 ∷ 0 ∷ 0 ∷ [])
    ∷ (17 ∷ 0 ∷ 0 ∷ 0 ∷ [])
    ∷ (17 ∷ 0 ∷ 0 ∷ 0 ∷ [])
    ∷ (8 ∷ 0 ∷ 0 ∷ 0 ∷ [])
    ∷ (8 ∷ 0 ∷ 0 ∷ 0 ∷ [])
    ∷ (0 ∷ 0 ∷ 13 ∷ 1 ∷ [])
    ∷ []
