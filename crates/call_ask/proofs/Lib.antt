pub mod AskLaws
pub mod CountLaws
