-- Laws of the calls that open.
pub mod Calls
pub mod Laws
