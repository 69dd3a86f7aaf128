pub mod InnerPlaces
pub mod InnerRenewed
pub mod InnerTaking
