pub mod EntryLeases
pub mod EntryFigures
pub mod EntryRows
pub mod EntryCalls
