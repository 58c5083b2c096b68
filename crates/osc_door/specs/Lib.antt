pub mod Comers
pub mod Visitors
