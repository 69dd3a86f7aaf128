pub mod Writes
pub mod Inner
