pub mod Granting
pub mod InnerServing
