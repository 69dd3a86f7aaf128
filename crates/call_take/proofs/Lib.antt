pub mod PlaceLaws
pub mod RenewLaws
pub mod FileLaws
pub mod OnGround
pub mod TakeLaws
