-- Theorems of the definitions of section 6.
pub mod Rows
pub mod Undo
pub mod Bytes
pub mod Pinned
