pub mod Counts
pub mod Live
pub mod Opened
pub mod Reached
pub mod Stored
pub mod Walks
pub mod Writing
