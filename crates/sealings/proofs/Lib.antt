-- Laws of the calls that seal.
pub mod Calls
pub mod Needs
pub mod Dones
