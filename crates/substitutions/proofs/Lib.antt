-- The tables undo each other.
pub mod Inverse
pub mod Rows
