-- Examples of usage figures (document 02, M-100), computed on the ledger: what takes tell, what becomes of rows when leases are struck, made and moved, and
-- where row 15 stands.
use Rattle.std.specs.Prelude.{ℕ, true, false, List, [], ◌∷◌, ◌++◌, map, replicate, take as up_to}
use Rattle.option.specs.Values.{Entry, information}
use Rattle.option.specs.Writing.{option_bytes}
use Rattle.table.specs.Table.{lease_slots, blank}
use Rattle.figures.specs.declared.FigureRow.{FigureRow}
use Rattle.figures.specs.Figures.{untold, empty_row}
use Rattle.ledger.specs.Ledger.{State, state, call, ask, take, list, release, mark}
use Rattle.ledger_examples.specs.Examples.{buffer, requesting, entry}
use Rattle.ledger_examples.specs.SampleLists.{table_with, lease, held, two}
use Rattle.ledger_examples.specs.FurtherExamples.{numbers, listing}

-- The first two rows of a sheet: network, length, high water, in use, unusable.
unfoldable pub shown_row : FigureRow → List ℕ
shown_row r = r.network ∷ r.length ∷ r.high_water.0 ∷ r.in_use.0 ∷ r.unusable.0 ∷ []

unfoldable pub rows_shown : State → List (List ℕ)
rows_shown s = map shown_row (up_to 2 s.rows)

abbrev pub row : ℕ → ℕ → ℕ → ℕ → List ℕ
row network high busy bad = network ∷ 30 ∷ high ∷ busy ∷ bad ∷ []

abbrev pub no_row : List ℕ
no_row = 0 ∷ 0 ∷ untold ∷ untold ∷ untold ∷ []

-- Two leases of client 5, 10.0.1.0/30 and 10.0.1.4/30, of which nothing was told.
unfoldable pub pair : State
pair = table_with 0x0a000100 24 (lease 0x0a000100 30 9000 ∷ lease 0x0a000104 30 9000 ∷ [])

-- The option with an entry for each of some figures of the first, and of the second, lease.
abbrev pub first : List ℕ → Entry
first figures = entry 0x0a000100 30 figures

abbrev pub second : List ℕ → Entry
second figures = entry 0x0a000104 30 figures

unfoldable pub telling : List Entry → List ℕ
telling es = option_bytes (information false false es ∷ [])

unfoldable pub takes : State → ℕ → List Entry → State
takes s now es = (take s now (call 5 (telling es) buffer)).state

-- All three told of the first lease.
unfoldable pub told_row : ℕ → ℕ → ℕ → ℕ → FigureRow
told_row network high busy bad = record { network = network; length = 30; high_water = record { 0 = high }; in_use = record { 0 = busy }; unusable = record { 0 = bad } }

unfoldable pub told_once : State
told_once = state pair.table (told_row 0x0a000100 9 7 1 ∷ told_row 0x0a000104 untold untold untold ∷ replicate 1022 empty_row)

-- "a take with figures updates the rows of its lines, in entry order; 0xffff or a missing figure keeps what was told before"
unfoldable pub told : List (List (List ℕ))
told =
    -- all three, of the first lease only
    rows_shown (takes pair 1001 (first (9 ∷ 7 ∷ 1 ∷ []) ∷ []))
    -- one missing, then all
    ∷ rows_shown (takes told_once 1002 (first (8 ∷ 6 ∷ []) ∷ []))
    ∷ rows_shown (takes told_once 1002 (first [] ∷ []))
    -- 0xffff
    ∷ rows_shown (takes told_once 1002 (first (0xffff ∷ 5 ∷ 0xffff ∷ []) ∷ []))
    ∷ []

unfoldable pub told_together : List (List (List ℕ))
told_together =
    -- the same entry twice: figure by figure the later one
    rows_shown (takes pair 1001 (first (9 ∷ 7 ∷ 1 ∷ []) ∷ first (0xffff ∷ 3 ∷ []) ∷ []))
    -- each of two entries its own lease
    ∷ rows_shown (takes pair 1001 (second (4 ∷ 3 ∷ 2 ∷ []) ∷ first (9 ∷ 7 ∷ 1 ∷ []) ∷ []))
    -- an entry that is not found, and another length at the same network
    ∷ rows_shown (takes pair 1001 (entry 0x0a000108 30 (4 ∷ 3 ∷ 2 ∷ []) ∷ entry 0x0a000100 29 (4 ∷ 3 ∷ 2 ∷ []) ∷ second [] ∷ []))
    -- figures past the third are stepped over
    ∷ rows_shown (takes pair 1001 (first (9 ∷ 7 ∷ 1 ∷ 5 ∷ []) ∷ []))
    ∷ []

abbrev pub told_expected : List (List (List ℕ))
told_expected =
    (row 0x0a000100 9 7 1 ∷ row 0x0a000104 untold untold untold ∷ [])
    ∷ (row 0x0a000100 8 6 1 ∷ row 0x0a000104 untold untold untold ∷ [])
    ∷ (row 0x0a000100 9 7 1 ∷ row 0x0a000104 untold untold untold ∷ [])
    ∷ (row 0x0a000100 9 5 1 ∷ row 0x0a000104 untold untold untold ∷ [])
    ∷ []

abbrev pub together_expected : List (List (List ℕ))
together_expected =
    (row 0x0a000100 9 3 1 ∷ row 0x0a000104 untold untold untold ∷ [])
    ∷ (row 0x0a000100 9 7 1 ∷ row 0x0a000104 4 3 2 ∷ [])
    ∷ (row 0x0a000100 untold untold untold ∷ row 0x0a000104 untold untold untold ∷ [])
    ∷ (row 0x0a000100 9 7 1 ∷ row 0x0a000104 untold untold untold ∷ [])
    ∷ []

-- States of which something was told: both leases of the pair, and one lease alone, until 4601.
unfoldable pub both : State
both = state pair.table (told_row 0x0a000100 9 7 1 ∷ told_row 0x0a000104 4 3 2 ∷ replicate 1022 empty_row)

unfoldable pub alone : ℕ → State
alone network = state (table_with 0x0a000100 24 (lease network 30 4601 ∷ [])).table (told_row network 9 7 1 ∷ replicate 1023 empty_row)

-- "When a line is struck its row is cleared; nothing else changes a line's figures."
unfoldable pub kept : List (List (List ℕ))
kept =
    -- a return's figures have no effect, and the row behind the one that it clears moves up with its lease
    rows_shown (release both 1002 (call 5 (telling (second (1 ∷ 1 ∷ 1 ∷ []) ∷ [])) [])).state
    ∷ rows_shown (release both 1002 (call 5 (telling (first (1 ∷ 1 ∷ 1 ∷ []) ∷ [])) [])).state
    -- a take without figures, a mark
    ∷ rows_shown (takes both 1002 (first [] ∷ second [] ∷ []))
    ∷ rows_shown (mark both 1002 0x0a000100 30 true).state
    -- another client's take is refused, and tells nothing
    ∷ rows_shown (take both 1002 (call 6 (telling (first (1 ∷ 1 ∷ 1 ∷ []) ∷ [])) buffer)).state
    ∷ []

abbrev pub kept_expected : List (List (List ℕ))
kept_expected =
    (row 0x0a000100 9 7 1 ∷ no_row ∷ [])
    ∷ (row 0x0a000104 4 3 2 ∷ no_row ∷ [])
    ∷ (row 0x0a000100 9 7 1 ∷ row 0x0a000104 4 3 2 ∷ [])
    ∷ (row 0x0a000100 9 7 1 ∷ row 0x0a000104 4 3 2 ∷ [])
    ∷ (row 0x0a000100 9 7 1 ∷ row 0x0a000104 4 3 2 ∷ [])
    ∷ []

-- "A new or loaded line starts with all three untold (0xffff)".
unfoldable pub made : List (List (List ℕ))
made =
    -- while the lease is present an ask gets other ground, behind it or in front of it
    rows_shown (ask (alone 0x0a000100) 4600 (call 7 (requesting 30) buffer)).state
    ∷ rows_shown (ask (alone 0x0a000104) 4600 (call 7 (requesting 30) buffer)).state
    -- once it has ended the ask gets its prefix, and nothing of its figures
    ∷ rows_shown (ask (alone 0x0a000100) 4601 (call 7 (requesting 30) buffer)).state
    ∷ []

abbrev pub made_expected : List (List (List ℕ))
made_expected =
    (row 0x0a000100 9 7 1 ∷ row 0x0a000104 untold untold untold ∷ [])
    ∷ (row 0x0a000100 untold untold untold ∷ row 0x0a000104 9 7 1 ∷ [])
    ∷ (row 0x0a000100 untold untold untold ∷ no_row ∷ [])
    ∷ []

-- A lease of which something was told, that client 7 holds until this time.
unfoldable pub held_told : ℕ → ℕ → State
held_told network expires = state (table_with 0x0a000100 24 (held 7 network 30 false false expires ∷ [])).table (told_row network 9 7 1 ∷ replicate 1023 empty_row)

-- Given again it keeps its figures, also with a new lease before it (M-101); once it has ended nothing of them is left.
unfoldable pub regiven : List (List (List ℕ))
regiven =
    rows_shown (ask (held_told 0x0a000100 1100) 1050 (call 7 (requesting 30) buffer)).state
    ∷ rows_shown (ask (held_told 0x0a000104 1100) 1050 (call 7 (two 30 30) buffer)).state
    ∷ rows_shown (ask (held_told 0x0a000100 1050) 1050 (call 7 (requesting 30) buffer)).state
    ∷ []

abbrev pub regiven_expected : List (List (List ℕ))
regiven_expected =
    (row 0x0a000100 9 7 1 ∷ no_row ∷ [])
    ∷ (row 0x0a000100 untold untold untold ∷ row 0x0a000104 9 7 1 ∷ [])
    ∷ (row 0x0a000100 untold untold untold ∷ no_row ∷ [])
    ∷ []

-- Sheets that do not match: rows missing, the rows of an empty table, and one figure told of an empty slot.
unfoldable pub with_rows : List FigureRow → State
with_rows rows = state pair.table rows

unfoldable pub told_of_none : FigureRow
told_of_none = record { network = 0; length = 0; high_water = record { 0 = 9 }; in_use = record { 0 = untold }; unusable = record { 0 = untold } }

-- "Refusals: 15, figures sheet unsound, after 5": before 2, of every call that has the sheet, and of no list.
unfoldable pub mismatched : List (List ℕ)
mismatched =
    numbers (ask (with_rows []) 999 (call 0 [] buffer)).answer
    ∷ numbers (take (with_rows (replicate lease_slots empty_row)) 999 (call 0 [] buffer)).answer
    ∷ numbers (release (with_rows (up_to 1023 pair.rows ++ (told_of_none ∷ []))) 999 (call 0 [] [])).answer
    ∷ numbers (mark (with_rows (pair.rows ++ (empty_row ∷ []))) 999 0x0a000100 30 true).answer
    -- after 5, and after 1
    ∷ numbers (ask (state blank []) 999 (call 0 [] buffer)).answer
    ∷ numbers (ask (with_rows []) 999 (call 0 [] (replicate 256 0))).answer
    -- a list does not have the sheet
    ∷ numbers (list (with_rows []) 1000 (call 5 listing buffer)).answer
    -- it is judged with the table as passed, ended leases included
    ∷ numbers (take pair 9000 (call 5 (telling (first [] ∷ [])) buffer)).answer
    ∷ []

abbrev pub mismatched_expected : List (List ℕ)
mismatched_expected =
    (15 ∷ 0 ∷ 0 ∷ 0 ∷ [])
    ∷ (15 ∷ 0 ∷ 0 ∷ 0 ∷ [])
    ∷ (15 ∷ 0 ∷ 0 ∷ 0 ∷ [])
    ∷ (15 ∷ 0 ∷ 0 ∷ 0 ∷ [])
    ∷ (5 ∷ 0 ∷ 0 ∷ 0 ∷ [])
    ∷ (1 ∷ 0 ∷ 0 ∷ 0 ∷ [])
    ∷ (0 ∷ 0 ∷ 20 ∷ 2 ∷ [])
    ∷ (11 ∷ 0 ∷ 0 ∷ 0 ∷ [])
    ∷ []
