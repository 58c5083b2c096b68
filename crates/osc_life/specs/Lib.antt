-- What public contracts cite.
pub mod Crews
pub mod Holders
pub mod Lives
pub mod Looking
pub mod Whole
pub mod Works
