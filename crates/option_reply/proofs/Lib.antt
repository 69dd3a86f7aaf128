-- Laws of bytes put, and of the bytes of a reply.
pub mod BytePuts
pub mod SelectionPuts
pub mod ReplyLaws
