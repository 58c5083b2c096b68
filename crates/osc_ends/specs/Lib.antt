-- What public contracts cite.
pub mod Limits
pub mod Sinks
pub mod Outcomes
pub mod Printing
pub mod Ends
pub mod Inputs
pub mod CommandEnds
pub mod Judging
pub mod Recordings
-- Inside the crate.
pub mod Whole
