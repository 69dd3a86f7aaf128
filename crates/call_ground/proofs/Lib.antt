pub mod PoolLaws
pub mod RangeLaws
pub mod LeaseLaws
pub mod EntryLaws
pub mod RowLaws
pub mod GroundsLaws
pub mod ReturnLaws
