-- What public contracts cite.
pub mod Commands
pub mod Runs
pub mod Scores
pub mod EndsPlain
