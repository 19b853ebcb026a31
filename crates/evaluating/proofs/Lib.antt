-- Laws of evaluating.
pub mod Pieces
pub mod Shaped
pub mod Readied
pub mod Meant
pub mod Ways
pub mod Unique
