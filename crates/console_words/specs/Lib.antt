pub mod Words
pub mod Numbers
pub mod Prefixes
pub mod InnerPrefixes
pub mod Octets
