pub mod Answers
pub mod Closing
pub mod History
pub mod Jobs
pub mod Numbers
pub mod Passes
pub mod Rule
pub mod Steps
