pub mod Rounds
pub mod Served
pub mod Turns
pub mod Visits
