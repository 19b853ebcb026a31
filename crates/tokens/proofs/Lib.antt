-- Laws of the pieces.
pub mod Laws
pub mod Heads
pub mod Rows
