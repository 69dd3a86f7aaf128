pub mod FitLaws
pub mod SplitLaws
pub mod ColumnLaws
pub mod SolidLaws
pub mod EndLaws
pub mod BitLaws
pub mod SearchLaws
