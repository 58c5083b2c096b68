-- What public contracts cite.
pub mod Holding
-- Inside the crate.
pub mod Paths
