mod Begun
mod EntriesRead
pub mod Looking
mod MethodsListed
mod PartsRead
mod Places
mod Publishings
mod RowsKept
mod ServerReads
mod Unread
mod Waits
