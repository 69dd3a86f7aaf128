-- Laws for callers.
pub mod SheetLaws
pub mod AcceptedLaws
-- Laws of the functions.
mod RowLaws
mod EmptyBytes
mod MatchLaws
mod BlockLaws
mod StrikeLaws
mod PlacedLaws
mod SpreadLaws
mod FillLaws
