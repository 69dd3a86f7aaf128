pub mod PlaceLaws
pub mod TallyLaws
pub mod SideLaws
pub mod FreeLaws
pub mod PassLaws
