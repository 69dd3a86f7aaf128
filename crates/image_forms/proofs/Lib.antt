pub mod FormLaws
pub mod NamedLaws
