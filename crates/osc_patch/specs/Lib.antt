pub mod Words
pub mod Hosts
pub mod Entries
pub mod Patches
pub mod Answers
pub mod Texts
pub mod Written
