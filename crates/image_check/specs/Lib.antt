pub mod ImageSummary
pub mod Inner
pub mod InnerPass
