pub mod Scores
pub mod Scripted
pub mod Kinds
pub mod ArgumentWords
pub mod Reading
pub mod Plans
pub mod Answers
-- Inside the crate.
pub mod Keeping
pub mod Argued
