-- Laws of a block that stands alone.
pub mod Columns
pub mod Rounds
