-- Laws of the definitions.
pub mod PartLaws
pub mod EntryLengths
pub mod MeasureLaws
