pub mod Standing
pub mod InnerTally
