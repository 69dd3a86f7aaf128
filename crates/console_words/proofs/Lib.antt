pub mod NumberLaws
pub mod WordLaws
pub mod PrefixLaws
pub mod OctetLaws
