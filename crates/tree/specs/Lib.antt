-- Recipes as trees.
pub mod Tree
pub mod Calls
pub mod Bounds
pub mod Reading
pub mod Names
pub mod Values
