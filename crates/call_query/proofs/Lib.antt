pub mod QueryLaws
pub mod WholeHolds
