pub mod Space
pub mod Grant
pub mod Serving
pub mod Scan
pub mod Examples
