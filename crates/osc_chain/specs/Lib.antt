-- What public contracts cite.
pub mod Rooms
pub mod Seams
pub mod Shows
