pub mod Heard
pub mod Calls
