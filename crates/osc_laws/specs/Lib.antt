pub mod Facts
pub mod Consecutive
pub mod Exactly
pub mod Once
pub mod Laws
