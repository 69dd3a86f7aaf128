pub mod Open
pub mod Keys
pub mod InnerOrder
