pub mod Sizes
pub mod InnerSizes
pub mod Lines
pub mod FigureLines
pub mod CountLines
