-- An entry as the code holds it, and the reader's steps over the entries of an information.
use Rattle.std.specs.Prelude.{ℕ, Bool, true, false, Option, Some, None, Result, Ok, Err}
use Rattle.lists.specs.Walk.{Turn, more, stop}
use Rattle.option_entry.specs.declared.{EntryFields.EntryFields, EntryCursor.EntryCursor, CutEntry.CutEntry}
use Rattle.option_entry.specs.Entries.{Entry}
pub use Rattle.option_entry.specs.Entries.{figures_of}

abbrev pub fields_of : Entry → EntryFields
fields_of e = record { network = e.network; length = e.length; h = e.h; d = e.d; figures = figures_of e.figures }

-- The places of the entries from `at` to `end`.
abbrev pub entries_from : ℕ → ℕ → EntryCursor
entries_from at end = record { at = at; end = end }

abbrev pub entry_step_of : ℕ → Turn Entry Bool → Result (Option (EntryFields × EntryCursor)) CutEntry
entry_step_of end (more e next) = Ok (Some (fields_of e, entries_from next end))
entry_step_of end (stop true) = Ok None
entry_step_of end (stop false) = Err (record {})
