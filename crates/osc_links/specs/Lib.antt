-- What public contracts cite.
pub mod Hosts
pub mod Faults
pub mod Links
pub mod Serves
pub mod Ticks
-- Inside the crate.
pub mod Rounds
pub mod Taken
pub mod Works
