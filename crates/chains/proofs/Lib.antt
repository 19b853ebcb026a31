-- Laws of the code.
pub mod Laws
