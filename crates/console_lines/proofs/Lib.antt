pub mod SizeLaws
pub mod TextLaws
pub mod AnswerLaws
pub mod FigureLaws
mod FigureExamples
pub mod CountLaws
mod CountExamples
