-- Laws of the entries.
pub mod Told
pub mod Unique
pub mod Wrong
