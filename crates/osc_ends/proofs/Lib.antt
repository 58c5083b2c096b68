mod Transfers
pub mod Said
pub mod Inputs
mod Upgrades
mod LastLines
