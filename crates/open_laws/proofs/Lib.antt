-- Opening with keys mixed back is opening; a column swapped is mixed back.
pub mod Equal
pub mod Swaps
pub mod Cells
pub mod Unique
