pub mod Notes
pub mod Answers
pub mod Cued
