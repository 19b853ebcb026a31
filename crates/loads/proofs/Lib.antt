-- Laws of loads.
pub mod Laws
