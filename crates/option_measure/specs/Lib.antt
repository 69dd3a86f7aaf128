pub mod Lists
pub mod Measuring
