pub mod HeardTurns
pub mod SeenAll
pub mod SeenOnce
pub mod ServedTurns
pub mod ToldFronts
