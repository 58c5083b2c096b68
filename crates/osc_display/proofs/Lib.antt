-- Inside the crate.
pub mod Looking
