pub mod Printed
pub mod Spaced
pub mod Fronts
pub mod Again
pub mod Lawful
