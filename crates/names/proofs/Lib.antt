-- Laws that several proofs cite.
pub mod NameLaws
pub mod WordLaws
