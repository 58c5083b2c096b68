pub mod WholeArguments
pub mod Lines
pub mod Sheets
