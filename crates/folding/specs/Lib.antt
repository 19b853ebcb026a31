-- Folding read from the top.
pub mod TopDown
pub mod Parts
pub mod Folded
