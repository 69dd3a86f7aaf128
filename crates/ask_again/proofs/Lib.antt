pub mod Counting
pub mod GiveLaws
pub mod ChainLaws
pub mod HeldLaws
pub mod FindLaws
pub mod HoldLaws
