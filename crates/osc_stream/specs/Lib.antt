pub mod Frames
pub mod Feeding
pub mod Buffers
pub mod Links
pub mod Runs
pub mod Written
