-- Laws of leaves.
pub mod Ways
pub mod Leaves
