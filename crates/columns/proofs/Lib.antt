-- Laws of the lookups.
pub mod Lookup
