pub mod Above
pub mod Lists
pub mod Prefixes
pub mod Counts
pub mod Lines
pub mod Lawful
pub mod Places
pub mod Orders
pub mod Literals
pub mod Sorting
pub mod Ranges
pub mod InOrder
pub mod Leaving
pub mod Refusing
mod Found
pub mod Alike
pub mod Charges
pub mod Walks
mod Tables
mod Tails
pub mod Apart
pub mod Neighbours
pub mod Searches
mod Compared
mod Narrowed
mod SharedNames
mod Fronts
pub mod Lookups
pub mod Spelled
pub mod Beginnings
pub mod Onward
pub mod Choices
pub mod Chosen
mod Gathered
pub mod Advances
pub mod Taken
pub mod Overs
mod Flats
mod Bounds
mod Depths
