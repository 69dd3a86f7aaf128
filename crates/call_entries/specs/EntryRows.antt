-- The rows that an option decides where its entries are what counts, and what is read of it.
use Rattle.std.specs.Prelude.{ℕ, ◌≤◌, ◌≡◌, not, List, [], ◌∷◌, ◌++◌, length, take, Result, MatchResult}
use Rattle.std.proofs.Math.Option.{some}
use Rattle.option.specs.Reading.{read_option}
use Rattle.option.specs.Contents.{suboptions, entries_in}
use Rattle.ledger.specs.declared.Refusal.{Refusal}
use Rattle.ledger.specs.Answers.{refusal_number, bad_place}
use Rattle.ledger.specs.Ledger.{call, Row, first_of, refusal_place, option_rows, for_take}
use Rattle.option_reply.specs.Reply.{most_entries}
use Rattle.call_entries.specs.EntryLeases.{Hold}
use Rattle.call_entries.specs.EntryFigures.{first_entries, LeftAt}

-- Rows 6, 7, 16 and 8 of take and release: row 8 is "no requests, at least one entry".
abbrev pub entry_rows : List ℕ → List Row
entry_rows option = option_rows (call 0 option []) ++ ((8, not (for_take (suboptions (read_option option)))) ∷ [])

-- Where no row applies, the rows after these decide: the columns hold the entries, n of them, and their figures are left to read.
pub record EntriesRead (option networks lengths : List ℕ) (n : ℕ) : Type 0 where
  pub passed : (rest : List Row) → first_of (entry_rows option ++ rest) ≡ first_of rest
  pub few : n ≤ most_entries
  pub left : LeftAt option first_entries (entries_in option)
  pub hold : Hold (take n networks) (take n lengths) (entries_in option)
  pub many : n ≡ length (entries_in option)

-- The entries are read, or the refusal is that of the row that applies.
abbrev pub ReadsEntries : List ℕ → Result ℕ Refusal → List ℕ → List ℕ → Type 0
ReadsEntries option r networks lengths =
    MatchResult r (EntriesRead option networks lengths) (λ e. (first_of (entry_rows option) ≡ some (refusal_number e)) × (bad_place e ≡ refusal_place option (refusal_number e)))
