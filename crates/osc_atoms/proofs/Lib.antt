pub mod Positions
pub mod Outcomes
pub mod AllBytes
pub mod Numbers
pub mod Paddings
pub mod Strings
pub mod Blobs
pub mod Writings
