-- Laws of the first block.
pub mod Laws
