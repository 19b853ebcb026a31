-- Laws of the scan.
pub mod Laws
pub mod Bindings
