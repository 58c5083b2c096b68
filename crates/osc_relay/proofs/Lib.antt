mod Addressing
mod Apart
mod EachOutlet
mod Relaying
