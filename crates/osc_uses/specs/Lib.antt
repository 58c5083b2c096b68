pub mod Early
pub mod Host
pub mod Light
pub mod Live
pub mod LiveCalls
pub mod Played
