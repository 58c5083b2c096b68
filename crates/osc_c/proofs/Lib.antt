pub mod AsBox
pub mod Begun
pub mod FirstCaller
pub mod Overs
pub mod Places
pub mod Reading
