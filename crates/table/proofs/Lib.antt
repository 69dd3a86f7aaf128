-- Laws that several proofs cite.
pub mod Ascending
pub mod TableLaws
pub mod PoolLaws
pub mod OlderLaws
