pub mod PassLaws
pub mod GroundLaws
