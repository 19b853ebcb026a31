-- Laws of the ways.
pub mod Evaluated
pub mod Staying
pub mod Choosing
pub mod Taken
