pub mod Entered
pub mod Listing
