-- Heads of records.
pub mod Heads
