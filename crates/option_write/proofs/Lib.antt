-- Laws of the definitions.
pub mod EachPut
pub mod EntryPuts
pub mod ItemPuts
pub mod ReaderToWriter
pub mod BufferReadsBack
