pub mod InnerStruck
pub mod InnerReleasing
