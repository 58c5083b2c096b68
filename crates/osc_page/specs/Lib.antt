pub mod Added
pub mod Boards
pub mod Replies
pub mod Requests
pub mod States
