-- Laws of the code.
pub mod Laws
pub mod Ends
pub mod Unique
