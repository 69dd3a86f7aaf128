pub mod InnerSaving
