-- What public contracts cite.
pub mod Calls
pub mod Closing
pub mod Enrolments
pub mod Outs
pub mod Looks
pub mod Pumps
pub mod Resuming
pub mod Reads
pub mod Seen
pub mod Tokens
-- Inside the crate.
pub mod Asked
pub mod Left
pub mod Redone
