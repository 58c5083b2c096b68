-- What public contracts cite.
pub mod Ends
pub mod Enough
pub mod Performs
pub mod Later
pub mod Tells
pub mod Sent
pub mod Shares
pub mod Works
