mod Places
mod Lettering
mod EntriesRead
mod Releasing
mod Naming
mod Agreeing
mod Heard
