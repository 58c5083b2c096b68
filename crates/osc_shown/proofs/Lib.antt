pub mod Listing
pub mod Lettering
pub mod UnitTexts
pub mod Joining
