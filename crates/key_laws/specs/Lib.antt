-- The round keys in words, and where they stand.
pub mod Stores
pub mod Turns
pub mod Schedule
