-- What public contracts cite.
pub mod Registry
pub mod Nodes
pub mod Adding
pub mod Matching
pub mod Views
pub mod Walking
-- Inside the crate.
pub mod Order
pub mod Choosing
pub mod Trials
