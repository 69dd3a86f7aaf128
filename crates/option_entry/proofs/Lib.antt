-- Laws of the definitions.
pub mod FigureLaws
