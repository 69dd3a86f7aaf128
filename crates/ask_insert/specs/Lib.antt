pub mod Growing
pub mod InnerMerging
pub mod InnerDropping
