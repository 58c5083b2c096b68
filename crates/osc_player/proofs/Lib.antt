mod Onward
pub mod Rising
mod Hearing
mod Tallies
mod Endings
mod Places
mod Adds
mod Pumps
mod Runs
mod Enough
