-- What public contracts cite.
pub mod Names
pub mod Numbers
pub mod Options
pub mod Verbs
pub mod Reading
pub mod Commands
pub mod Ranges
