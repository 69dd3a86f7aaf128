-- The entries of an option that are left to read, where their figures are read one after another from its bytes.
use Rattle.std.specs.Prelude.{ℕ, ◌≤◌, ◌≡◌, true, List, ◌++◌, length}
use Rattle.option_entry.specs.declared.EntryCursor.{EntryCursor}
use Rattle.option_entry.specs.Steps.{entries_from}
use Rattle.option.specs.Values.{Entry, SuboptionValue}
use Rattle.option.specs.Reading.{whole, read_entries, read_suboptions}
use Rattle.option.specs.Contents.{entries}

-- Before the first: the suboptions of an option begin at place 3.
abbrev pub first_entries : EntryCursor
first_entries = entries_from 3 3

-- The entries that are left are those from a cursor to the end of its information, all framed, and those of the suboptions after it, all good.
pub record LeftAt (s : List ℕ) (c : EntryCursor) (es : List Entry) : Type 0 where
  pub here : List Entry
  pub later : List SuboptionValue
  pub ordered : c.at ≤ c.end
  pub inside : c.end ≤ length s
  pub framed : read_entries s c.end c.at ≡ (here, true)
  pub goes_on : read_suboptions s c.end ≡ (later, whole)
  pub are : es ≡ here ++ entries later
