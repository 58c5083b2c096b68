pub mod Carried
pub mod Waiting
pub mod Leading
pub mod Chains
pub mod Answers
