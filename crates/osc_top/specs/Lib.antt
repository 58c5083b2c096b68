-- What public contracts cite.
pub mod Commands
pub mod Edges
pub mod EndsCommand
pub mod EndsResumed
pub mod History
pub mod Lanes
pub mod Live
pub mod Resumed
pub mod Served
pub mod Taken
pub mod Enough
pub mod Watched
-- Inside the crate.
pub mod After
pub mod Dealt
pub mod Staged
pub mod Recorded
