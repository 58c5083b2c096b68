mod WordTags
pub mod LawfulPatterns
pub mod ArrayBrackets
pub mod ArgumentAtoms
pub mod Steps
pub mod FirstFaults
pub mod MessageLaws
pub mod Checks
pub mod Patterns
pub mod TextLaws
pub mod WantLaws
pub mod Buildings
pub mod Readable
pub mod Openings
pub mod UnknownTags
pub mod Bracketing
