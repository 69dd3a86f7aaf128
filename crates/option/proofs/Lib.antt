-- Laws of the definitions.
pub mod RuleLaws
pub mod EntryLaws
pub mod EntryScan
pub mod SuboptionLaws
pub mod StepLaws
pub mod WritingLaws
pub mod WrittenReadsBack
pub mod Replies
pub mod AcceptedWritesBack
pub mod IgnoredBits
pub mod MarkedExamples
