pub mod PageLaws
pub mod PlaceInList
pub mod ListLaws
