pub mod Commands
pub mod Parsing
pub mod CountOctets
pub mod InnerParsing
