-- What public contracts cite.
pub mod Outlets
pub mod Relayed
pub mod Sent
pub mod Memory
pub mod Relays
