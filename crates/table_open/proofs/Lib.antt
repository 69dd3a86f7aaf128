-- Laws that several proofs cite.
pub mod OpenLaws
pub mod ColumnLaws
pub mod MoveLaws
pub mod OrderLaws
