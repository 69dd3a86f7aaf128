pub mod Runs
pub mod InnerRuns
