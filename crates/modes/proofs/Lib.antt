-- Laws and theorems of the modes.
pub mod Blocks
pub mod Stream
pub mod Chain
pub mod Fill
pub mod Mac
pub mod Counters
pub mod Suites
pub mod Checks
pub mod Cell
pub mod Values
pub mod Numbers
pub mod Tags
pub mod Edges
pub mod Steps
