-- What public contracts cite.
pub mod Ends
pub mod Lines
pub mod Sent
pub mod Stages
