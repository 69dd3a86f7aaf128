pub mod ImageCalls
pub mod Books
pub mod OnBooks
pub mod InRange
pub mod CountsKept
pub mod SavedForms
pub mod Written
