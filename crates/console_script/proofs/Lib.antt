pub mod NameLaws
pub mod LineLaws
mod MessageLaws
mod CountOctetLaws
