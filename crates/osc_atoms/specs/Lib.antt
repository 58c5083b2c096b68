pub mod Atoms
pub mod Faults
pub mod Standing
pub mod Reading
