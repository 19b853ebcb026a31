-- Laws of kinds.
pub mod Quick
pub mod Needs
