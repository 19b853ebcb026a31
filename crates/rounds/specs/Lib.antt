-- Rounds over the blocks of a cell.
pub mod Rounds
