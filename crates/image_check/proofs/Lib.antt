pub mod FitLaws
pub mod RunLaws
pub mod SummaryLaws
pub mod PoolLaws
pub mod ScanLaws
