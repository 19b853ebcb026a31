-- The points of document 01, section 8.
pub mod Points
