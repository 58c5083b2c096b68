pub mod Shown
pub mod Versions
pub mod Reading
pub mod Fields
pub mod Writing
pub mod Left
pub mod Unread
