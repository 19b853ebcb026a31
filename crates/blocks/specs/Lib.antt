-- Keys of all blocks of a cell.
pub mod Blocks
