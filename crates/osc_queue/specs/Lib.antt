pub mod Timed
pub mod Views
-- Inside the crate.
pub mod Heaps
