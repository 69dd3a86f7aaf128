pub mod ColumnLaws
pub mod RestLaws
pub mod GroundLaws
pub mod GrantLaws
pub mod ServeLaws
