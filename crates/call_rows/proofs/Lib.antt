pub mod SummaryLaws
pub mod BookSummary
pub mod SelectionLaws
pub mod RowLaws
pub mod AdmitLaws
pub mod FinishLaws
pub mod SettleLaws
pub mod StruckLaws
