pub mod Gaps
pub mod Columns
pub mod InnerSearch
