-- What public contracts cite.
pub mod Agenda
pub mod Answers
pub mod Datagrams
pub mod Links
pub mod Printing
pub mod Showing
mod Waits
