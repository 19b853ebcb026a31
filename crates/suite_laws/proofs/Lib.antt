-- The table's rows.
pub mod Rows
