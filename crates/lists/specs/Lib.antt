pub mod Lists
pub mod Walk
pub mod Properties
pub mod Put
