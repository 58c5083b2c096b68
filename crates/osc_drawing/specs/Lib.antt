-- What public contracts cite.
pub mod Numbers
pub mod Carried
pub mod Marks
pub mod Gatherings
pub mod Endings
pub mod Sketches
pub mod Readings
pub mod Rows
pub mod Ties
pub mod Pictures
pub mod Headings
pub mod Calls
-- Inside the crate.
pub mod Lines
