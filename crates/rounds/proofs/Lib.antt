-- Laws of the walks.
pub mod Laws
