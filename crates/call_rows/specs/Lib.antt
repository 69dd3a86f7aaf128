pub mod Admission
pub mod StruckRows
pub mod InnerSummary
