-- What public contracts cite.
pub mod Items
pub mod Parts
pub mod Cuts
pub mod Reading
pub mod Patterns
pub mod Bare
pub mod Addresses
pub mod Methods
pub mod Repeats
pub mod ReadyParts
-- Inside the crate.
pub mod Views
