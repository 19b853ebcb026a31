-- How a record folds.
pub mod Ways
