pub mod Lists
pub mod Playing
pub mod Steps
pub mod Plays
pub mod Adds
pub mod Gathered
pub mod Grouped
pub mod Bundles
pub mod Sends
pub mod Calls
pub mod Releases
pub mod Batches
pub mod Sizes
pub mod Faultless
pub mod Whole
pub mod Rewritten
mod Printed
