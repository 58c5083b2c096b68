pub mod Ends
pub mod Fronts
pub mod Growths
pub mod Rests
pub mod Wholes
