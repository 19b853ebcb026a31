-- Which lists are good, and what they give.
pub mod Exactly
pub mod Values
pub mod Fuel
pub mod Seek
pub mod Examples
