pub mod QueryLaws
pub mod CommandLaws
