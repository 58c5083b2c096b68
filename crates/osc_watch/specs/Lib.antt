-- What public contracts cite.
pub mod Listing
pub mod Edits
pub mod Parts
pub mod Watching
pub mod Refreshing
-- Inside the crate.
pub mod Rule
pub mod Reach
pub mod Publishing
pub mod Waiting
pub mod Notes
