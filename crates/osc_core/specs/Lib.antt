-- What public contracts cite.
pub mod Answers
pub mod Frames
pub mod Ids
pub mod Invoked
pub mod Playing
pub mod Redoing
pub mod Standing
pub mod Telling
-- Inside the crate.
pub mod Calls
pub mod Due
pub mod Found
pub mod Hearing
pub mod Recorded
pub mod Stored
pub mod Views
