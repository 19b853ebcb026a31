-- Heads of records.
pub mod Head
