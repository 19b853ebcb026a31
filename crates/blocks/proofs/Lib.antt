-- Laws of keys of all blocks.
pub mod Laws
pub mod Widths
