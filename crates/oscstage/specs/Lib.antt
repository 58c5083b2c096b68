-- Inside the crate.
pub mod Shows
