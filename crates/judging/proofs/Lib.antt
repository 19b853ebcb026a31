-- Laws of the checks.
pub mod Calls
pub mod Tests
pub mod Steps
pub mod Joins
