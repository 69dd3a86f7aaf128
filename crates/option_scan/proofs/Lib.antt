pub mod Adding
pub mod Naming
pub mod SuboptionWalk
