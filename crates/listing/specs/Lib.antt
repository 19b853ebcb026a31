-- Walking a list.
pub mod Walk
pub mod Find
