-- What public contracts cite.
pub mod Totals
pub mod Standings
pub mod Seen
pub mod KeptBytes
pub mod Following
-- Inside the crate.
pub mod Hits
pub mod Looks
