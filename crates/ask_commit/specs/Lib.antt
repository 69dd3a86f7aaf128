pub mod Asking
pub mod InnerReply
pub mod InnerRest
