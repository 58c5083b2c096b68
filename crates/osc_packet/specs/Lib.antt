-- What public contracts cite.
pub mod Packets
pub mod Units
pub mod Faults
pub mod Wants
pub mod Reading
pub mod Contents
pub mod Bundling
-- Inside the crate.
pub mod Known
pub mod Walks
