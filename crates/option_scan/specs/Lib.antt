pub mod Scanned
pub mod Inner
