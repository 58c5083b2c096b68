-- What public contracts cite.
pub mod Continuations
pub mod Moments
pub mod Openings
pub mod Reels
pub mod Shows
