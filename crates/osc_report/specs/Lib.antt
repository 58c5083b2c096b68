-- What public contracts cite.
pub mod Windows
pub mod Selections
pub mod Choices
pub mod Fronts
pub mod Moments
pub mod Notes
pub mod Units
pub mod Entries
pub mod Pages
pub mod Steps
pub mod Runs
pub mod Stretches
pub mod Reports
pub mod Endings
-- Inside the crate.
pub mod Kept
pub mod Told
