-- The blocks that chaining makes.
pub mod Links
