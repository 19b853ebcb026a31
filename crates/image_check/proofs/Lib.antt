-- Laws of the image check.
pub mod Bounds
pub mod Calls
pub mod Ways
