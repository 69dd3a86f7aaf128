pub mod NamedLaws
pub mod ManyLaws
pub mod EntriesLaws
pub mod FiguresLaws
pub mod RowLaws
pub mod CallLaws
