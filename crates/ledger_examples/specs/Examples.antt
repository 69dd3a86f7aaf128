-- The marked examples P1 to P12 of document 01's shift log, as rows of one list: what the definitions give, and what the log says.
use Rattle.std.specs.Prelude.{ℕ, false, List, [], ◌∷◌, replicate, take as up_to}
use Rattle.option.specs.Values.{Entry, request, information, Outcome, refused, accepted}
use Rattle.option.specs.Reading.{read_option}
use Rattle.option.specs.Writing.{option_bytes}
use Rattle.option.specs.Selection as selection
use Rattle.ledger.specs.Ledger.{State, call, Result, ledger, open_table, ask, take, list, release, mark}
use Rattle.ledger.specs.Histories.{Event, asked, taken, was_listed, returned, marked, saved, next}

-- A table opened at 1000 with these pools, term 3600 and default length 28.
unfoldable pub new_table : List ℕ → List ℕ → State
new_table networks lengths = (open_table networks lengths 3600 28 1000).state

unfoldable pub buffer : List ℕ
buffer = replicate 257 0

-- The option with one request, of P1's form.
abbrev pub requesting : ℕ → List ℕ
requesting len = 0xdc ∷ 5 ∷ 0 ∷ 1 ∷ 2 ∷ 0 ∷ len ∷ []

-- An entry without flags and figures; the option that names it.
abbrev pub entry : ℕ → ℕ → List ℕ → Entry
entry network len figures = record { network = network; length = len; h = false; d = false; figures = figures }

abbrev pub naming : ℕ → ℕ → List ℕ
naming network len = option_bytes (information false false (entry network len [] ∷ []) ∷ [])

-- A call's number, its place, and the bytes written.
unfoldable pub shown : Result State → List ℕ
shown r = r.answer.number ∷ r.answer.place ∷ up_to r.answer.bytes r.reply

unfoldable pub does : State → Event → List ℕ
does s (asked now c) = shown (ask s now c)
does s (taken now c) = shown (take s now c)
does s (was_listed now c) = shown (list s now c)
does s (returned now c) = shown (release s now c)
does s (marked now network len d) = shown (mark s now network len d)
does s saved = []

-- Calls one after another, each on the table that the one before left.
unfoldable pub does_all : State → List Event → List (List ℕ)
does_all s [] = []
does_all s (e ∷ es) = does s e ∷ does_all (next ledger s e) es

-- Accepted, with the offer of 10.0.x.y of this length in the bytes of P2.
abbrev pub offering : ℕ → ℕ → ℕ → List ℕ
offering x y len = 0 ∷ 0 ∷ 0xdc ∷ 0x0b ∷ 0 ∷ 2 ∷ 8 ∷ 0 ∷ 10 ∷ 0 ∷ x ∷ y ∷ len ∷ 0 ∷ 0 ∷ []

abbrev pub refusing : ℕ → ℕ → List ℕ
refusing number place = number ∷ place ∷ []

-- An ask of one request at 1000, and a take of one entry.
abbrev pub ask_for : ℕ → ℕ → Event
ask_for client len = asked 1000 (call client (requesting len) buffer)

abbrev pub take_at : ℕ → ℕ → ℕ → ℕ → Event
take_at now client network len = taken now (call client (naming network len) buffer)

-- What a row shows: how bytes read (option 220, option 118), what is written, what calls answer one after another.
pub data Shown : Type 0 where
  reads : Outcome → Shown
  selects : selection.Selected → Shown
  writes : List ℕ → Shown
  answers : List (List ℕ) → Shown

pub record Example : Type 0 where
  pub got : Shown
  pub expected : Shown

abbrev pub shows : Shown → Shown → Example
shows g e = record { got = g; expected = e }

unfoldable pub examples : List Example
examples =
    -- P1 `DC 05 00 01 02 00 18` reads as one request for 24, i and h 0
    shows (reads (read_option (0xdc ∷ 5 ∷ 0 ∷ 1 ∷ 2 ∷ 0 ∷ 0x18 ∷ []))) (reads (accepted (request false false 24 ∷ [])))
    -- P2 the offer of 10.0.1.0/24 is `DC 0B 00 02 08 00 0A 00 01 00 18 00 00`
    ∷ shows (writes (naming 0x0a000100 24)) (writes (0xdc ∷ 0x0b ∷ 0 ∷ 2 ∷ 8 ∷ 0 ∷ 0x0a ∷ 0 ∷ 1 ∷ 0 ∷ 0x18 ∷ 0 ∷ 0 ∷ []))
    ∷ shows (answers (does_all (new_table (0x0a000100 ∷ []) (24 ∷ [])) (ask_for 1 24 ∷ []))) (answers (offering 1 0 24 ∷ []))
    -- P3 `DC 05 00 01 02 00 1E` is accepted; with `1F`, 16 at place 3
    ∷ shows (reads (read_option (0xdc ∷ 5 ∷ 0 ∷ 1 ∷ 2 ∷ 0 ∷ 0x1e ∷ []))) (reads (accepted (request false false 30 ∷ [])))
    ∷ shows (answers (does_all (new_table (0x0a000100 ∷ []) (24 ∷ [])) (ask_for 1 30 ∷ ask_for 1 31 ∷ []))) (answers (offering 1 0 30 ∷ refusing 16 3 ∷ []))
    -- P4 `DC 01 00` gets 6; `DC 02 00 01` gets 7 at place 3
    ∷ shows (answers (does_all (new_table (0x0a000100 ∷ []) (24 ∷ [])) (asked 1000 (call 1 (0xdc ∷ 1 ∷ 0 ∷ []) buffer) ∷ asked 1000 (call 1 (0xdc ∷ 2 ∷ 0 ∷ 1 ∷ []) buffer) ∷ [])))
    (answers (refusing 6 0 ∷ refusing 7 3 ∷ []))
    -- P5 root 10.0.1.0/24, each ask from another station: asks 26, 25, 27 get 10.0.1.0, 10.0.1.128, 10.0.1.64; then 26 gets 10
    ∷ shows (answers (does_all (new_table (0x0a000100 ∷ []) (24 ∷ [])) (ask_for 1 26 ∷ ask_for 2 25 ∷ ask_for 3 27 ∷ ask_for 4 26 ∷ [])))
    (answers (offering 1 0 26 ∷ offering 1 128 25 ∷ offering 1 64 27 ∷ refusing 10 0 ∷ []))
    -- P6 roots 10.0.0.0/25 and 10.0.0.128/25: ask 24 gets 10
    ∷ shows (answers (does_all (new_table (0x0a000000 ∷ 0x0a000080 ∷ []) (25 ∷ 25 ∷ [])) (ask_for 1 24 ∷ []))) (answers (refusing 10 0 ∷ []))
    -- P7 roots 10.0.0.0/24 and 10.0.8.0/26: ask 27 gets 10.0.8.0/27; then 24 gets 10.0.0.0
    ∷ shows (answers (does_all (new_table (0x0a000000 ∷ 0x0a000800 ∷ []) (24 ∷ 26 ∷ [])) (ask_for 1 27 ∷ ask_for 2 24 ∷ []))) (answers (offering 8 0 27 ∷ offering 0 0 24 ∷ []))
    -- P8 prefix 0, default 28, P5's root empty: 10.0.1.0/28
    ∷ shows (answers (does_all (new_table (0x0a000100 ∷ []) (24 ∷ [])) (ask_for 1 0 ∷ []))) (answers (offering 1 0 28 ∷ []))
    -- P9 held at 1000: a take at 1119 succeeds; a first take at 1120 gets 11
    ∷ shows (answers (does_all (new_table (0x0a000100 ∷ []) (24 ∷ [])) (ask_for 7 26 ∷ take_at 1119 7 0x0a000100 26 ∷ []))) (answers (offering 1 0 26 ∷ offering 1 0 26 ∷ []))
    ∷ shows (answers (does_all (new_table (0x0a000100 ∷ []) (24 ∷ [])) (ask_for 7 26 ∷ take_at 1120 7 0x0a000100 26 ∷ []))) (answers (offering 1 0 26 ∷ refusing 11 0 ∷ []))
    -- P10 an entry 10.0.1.1/24 gets 16
    ∷ shows (reads (read_option (0xdc ∷ 0x0b ∷ 0 ∷ 2 ∷ 8 ∷ 0 ∷ 10 ∷ 0 ∷ 1 ∷ 1 ∷ 24 ∷ 0 ∷ 0 ∷ []))) (reads (refused 16 3))
    -- P11 stat-len 4 with four bytes is accepted, 3 with three gets 7
    ∷ shows (reads (read_option (0xdc ∷ 0x0f ∷ 0 ∷ 2 ∷ 12 ∷ 0 ∷ 10 ∷ 0 ∷ 1 ∷ 0 ∷ 24 ∷ 0 ∷ 4 ∷ 1 ∷ 0 ∷ 0 ∷ 7 ∷ [])))
    (reads (accepted (information false false (entry 0x0a000100 24 (256 ∷ 7 ∷ []) ∷ []) ∷ [])))
    ∷ shows (reads (read_option (0xdc ∷ 0x0e ∷ 0 ∷ 2 ∷ 11 ∷ 0 ∷ 10 ∷ 0 ∷ 1 ∷ 0 ∷ 24 ∷ 0 ∷ 3 ∷ 1 ∷ 0 ∷ 0 ∷ []))) (reads (refused 7 3))
    -- P12 `76 04 0A 00 01 00` reads 10.0.1.0; a Len of 3 gets 6
    ∷ shows (selects (selection.read_selection (0x76 ∷ 4 ∷ 0x0a ∷ 0 ∷ 1 ∷ 0 ∷ []))) (selects (selection.address 0x0a000100))
    ∷ shows (selects (selection.read_selection (0x76 ∷ 3 ∷ 0x0a ∷ 0 ∷ 1 ∷ 0 ∷ []))) (selects (selection.refused 6))
    ∷ []
