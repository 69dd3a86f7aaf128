pub mod Queries
pub mod WholeMeans
