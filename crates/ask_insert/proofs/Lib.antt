pub mod AddLaws
pub mod PlacesLaws
pub mod MergeLaws
pub mod CommitLaws
