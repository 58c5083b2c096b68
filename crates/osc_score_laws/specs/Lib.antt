pub mod Heard
pub mod Known
