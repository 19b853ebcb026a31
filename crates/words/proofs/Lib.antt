-- Laws of columns in pieces, and of walks over blocks.
pub mod Laws
pub mod Walks
pub mod Unique
