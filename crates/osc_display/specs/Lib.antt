-- What public contracts cite.
pub mod Displays
