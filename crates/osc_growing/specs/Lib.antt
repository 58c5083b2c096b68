pub mod Entries
pub mod Growing
