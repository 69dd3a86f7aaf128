pub mod ReplyPuts
pub mod GroundHeld
pub mod HeldTable
pub mod AdmittedLaws
pub mod RestGround
pub mod GrantLaws
