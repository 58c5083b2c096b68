mod Growing
mod Kept
mod Turning
