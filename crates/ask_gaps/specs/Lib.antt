pub mod Ground
pub mod InnerPass
