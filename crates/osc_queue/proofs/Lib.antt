pub mod Depths
pub mod Heads
pub mod Orders
pub mod Shifting
pub mod Sorting
pub mod Unique
