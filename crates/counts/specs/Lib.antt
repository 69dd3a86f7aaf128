pub mod Counts
pub mod Meaning
pub mod InnerLevels
