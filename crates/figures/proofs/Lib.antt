-- Laws of rows, for callers.
pub mod FoundLaws
pub mod KeptLaws
pub mod FollowLaws
pub mod FollowedLaws
pub mod FileLaws
pub mod FilingLaws
pub mod MatchLaws
pub mod StaysLaws
mod Examples
pub mod RowsMatch
pub mod RowsFollow
pub mod RowsFile
