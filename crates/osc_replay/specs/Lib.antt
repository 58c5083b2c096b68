-- What public contracts cite.
pub mod Answers
pub mod Checking
pub mod Counted
pub mod Disagreeing
pub mod Dumping
pub mod Formed
pub mod Old
pub mod Onward
pub mod Printed
pub mod Room
pub mod Upgrading
-- Inside the crate.
pub mod Calls
pub mod Events
pub mod Kept
pub mod Lawful
pub mod Playing
pub mod Unlawful
