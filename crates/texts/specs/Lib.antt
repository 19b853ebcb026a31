-- Recipes as text.
pub mod Spelling
pub mod Reading
pub mod Unbound
pub mod Packed
