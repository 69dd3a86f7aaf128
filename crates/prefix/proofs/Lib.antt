pub mod PrefixLaws
pub mod Nesting
pub mod BlockLaws
