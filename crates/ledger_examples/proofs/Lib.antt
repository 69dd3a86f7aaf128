-- What the examples come to.
pub mod ExamplesHold
pub mod FigureExamplesHold
pub mod AgainExamplesHold
pub mod NameExamplesHold
pub mod SelectionExamplesHold
pub mod Premises
pub mod WrongServersRefuted
pub mod GroundListsHold
pub mod AskingTwiceRefuted
pub mod NamesRefuted
