mod Appended
mod Clocks
mod Stretching
mod Showing
mod Joining
mod Telling
mod Selecting
