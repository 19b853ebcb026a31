-- Laws of folding read from the top.
pub mod TopDown
pub mod Sizes
pub mod Idle
pub mod Parts
pub mod Folded
