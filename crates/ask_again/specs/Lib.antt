pub mod Places
pub mod InnerGiving
pub mod InnerChains
