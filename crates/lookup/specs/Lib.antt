-- A column mixed by lookups.
pub mod Table
