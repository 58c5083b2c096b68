pub mod Boards
pub mod Looks
pub mod Pasts
pub mod Seen
pub mod Sights
pub mod Watching
pub mod Words
