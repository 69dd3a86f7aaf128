-- Laws that several proofs cite.
pub mod FieldLaws
pub mod ImageLaws
pub mod FormLaws
pub mod OlderLaws
pub mod Examples
pub mod WriteLaws
