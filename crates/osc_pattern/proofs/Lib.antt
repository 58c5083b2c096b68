mod Sets
pub mod Below
pub mod Cutting
mod Readings
mod Openings
mod Cuts
pub mod Matches
mod Reaches
mod Moves
mod Onward
mod ReadOnce
mod Repeats
pub mod PatternLaws
mod BarePatterns
mod AddressLaws
pub mod Parts
pub mod PlainPatterns
mod AddressPatterns
