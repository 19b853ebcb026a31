-- Laws of the stream modes' code.
pub mod Out
pub mod Cells
pub mod Counting
pub mod Widths
pub mod Adding
pub mod Modes
pub mod Ends
