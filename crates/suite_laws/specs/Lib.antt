-- The rows of the suite table.
pub mod Row
