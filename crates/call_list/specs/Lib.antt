pub mod InnerPage
pub mod InnerListing
