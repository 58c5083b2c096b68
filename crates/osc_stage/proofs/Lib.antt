mod Adding
mod Ending
mod Hosting
mod Placed
mod Sending
