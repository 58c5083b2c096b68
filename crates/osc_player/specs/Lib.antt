-- What public contracts cite.
pub mod Plain
pub mod Bank
pub mod Runs
pub mod Enough
-- Inside the crate.
pub mod Tally
pub mod Tallied
