-- The first block of a cell, by its bytes.
pub mod Held
