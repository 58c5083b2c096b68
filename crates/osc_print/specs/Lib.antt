pub mod Words
pub mod Lines
pub mod Entries
pub mod Dates
pub mod Dumps
