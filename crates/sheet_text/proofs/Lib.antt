pub mod RowTexts
pub mod ShowLaws
pub mod RowLaws
pub mod PoolLaws
pub mod SheetLaws
pub mod SheetHolds
pub mod ImageRows
pub mod AnswerLaws
mod Examples
