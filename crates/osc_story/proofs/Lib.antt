pub mod Places
pub mod Splits
pub mod Onward
pub mod Showing
pub mod Telling
pub mod Pieces
pub mod Unique
