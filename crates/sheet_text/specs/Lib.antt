pub mod Sheet
pub mod Answers
pub mod SheetSizes
pub mod InnerScan
