pub mod Counts
pub mod LastWords
pub mod Onward
pub mod Pieces
pub mod Standing
