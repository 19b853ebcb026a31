-- Laws of the plain calls.
pub mod Giving
pub mod Compared
