-- Laws of the program's own functions.
pub mod RunLaws
pub mod LineLaws
